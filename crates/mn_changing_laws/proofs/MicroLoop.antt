-- The two networks: next hops are computed, and at cost 15 each falls in rank.
use Rattle.std.proofs.Common.{ℕ, zero, suc, ◌≡◌, ◌<◌, inl, Bool, true, false, cond, [], ◌∷◌, refl, arith, sym, ◌∙◌, ap, Option, Some, None}
use Rattle.mn_wiring.specs.Wiring.{JoinsNodes}
use Rattle.mn_wiring.specs.Paths.{next}
use Rattle.mn_base.proofs.Members.{contained_in}
use Rattle.mn_topo.specs.Network.{wiring_of}
use Rattle.mn_changing_laws.specs.BothNext.{HasNoLoop}
use Rattle.mn_changing_laws.specs.MicroLoop.{micro_loop, with_link, OneHasALoop}
use Rattle.mn_changing_laws.proofs.Ranks.{node-below, no-loop}

too_far : (l : ℕ) → suc (suc (suc (suc l))) < 4 → ⊥
too_far l h = omega (arith, h)

pub joins : (cost : ℕ) → JoinsNodes (wiring_of (micro_loop cost))
joins cost zero h = (omega arith, omega arith)
joins cost (suc zero) h = (omega arith, omega arith)
joins cost (suc (suc zero)) h = (omega arith, omega arith)
joins cost (suc (suc (suc zero))) h = (omega arith, omega arith)
joins cost (suc (suc (suc (suc l)))) h = absurd (too_far l h)

rank : ℕ → ℕ
rank zero = 3
rank (suc zero) = 2
rank (suc (suc zero)) = 1
rank (suc (suc (suc n))) = 0

fell : (x : ℕ) (hop is : ℕ × ℕ) (o : Option (ℕ × ℕ)) → o ≡ Some is → rank is.0 < rank x → o ≡ Some hop → rank hop.0 < rank x
fell x hop is o e f g = omega (arith, f, ap rank (ap (λ h. h.0) (same is hop (sym e ∙ g))))
  where
    same : (a b : ℕ × ℕ) → ◌≡◌ {A = Option (ℕ × ℕ)} (Some a) (Some b) → a ≡ b
    same a b e = cc

nothing : (hop : ℕ × ℕ) (x : ℕ) → ◌≡◌ {A = Option (ℕ × ℕ)} None (Some hop) → rank hop.0 < rank x
nothing hop x e = cc

falls : (b : Bool) (x : ℕ) (hop : ℕ × ℕ) → next (wiring_of (micro_loop 15)) (cond b (with_link true) (with_link false)) x 3 ≡ Some hop → rank hop.0 < rank x
unfolding next rank
falls true zero hop e = fell 0 hop (1, 0) (next (wiring_of (micro_loop 15)) (with_link true) 0 3) refl (omega arith) e
falls true (suc zero) hop e = fell 1 hop (3, 1) (next (wiring_of (micro_loop 15)) (with_link true) 1 3) refl (omega arith) e
falls true (suc (suc zero)) hop e = fell 2 hop (3, 3) (next (wiring_of (micro_loop 15)) (with_link true) 2 3) refl (omega arith) e
falls true (suc (suc (suc zero))) hop e = nothing hop 3 e
falls false zero hop e = fell 0 hop (1, 0) (next (wiring_of (micro_loop 15)) (with_link false) 0 3) refl (omega arith) e
falls false (suc zero) hop e = fell 1 hop (2, 2) (next (wiring_of (micro_loop 15)) (with_link false) 1 3) refl (omega arith) e
falls false (suc (suc zero)) hop e = fell 2 hop (3, 3) (next (wiring_of (micro_loop 15)) (with_link false) 2 3) refl (omega arith) e
falls false (suc (suc (suc zero))) hop e = nothing hop 3 e
falls b (suc (suc (suc (suc x)))) hop e =
    absurd (too_far x (node-below (wiring_of (micro_loop 15)) (cond b (with_link true) (with_link false)) (suc (suc (suc (suc x)))) 3 hop (joins 15) e))

pub none-at-15 : HasNoLoop (wiring_of (micro_loop 15)) (with_link false) (with_link true) 3
none-at-15 = no-loop (wiring_of (micro_loop 15)) (with_link false) (with_link true) 3 rank falls

pub one_has_a_loop : OneHasALoop
unfolding next
one_has_a_loop = record {
  next_of_x = refl;
  next_of_y = refl;
  loop = (contained_in (2 ∷ []) 2 (inl refl), (contained_in (1 ∷ []) 1 (inl refl), tt));
  none = none-at-15;
}
