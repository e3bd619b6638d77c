-- In a settled world the route leads by the next hops to its end.
use Rattle.std.proofs.Common.{ℕ, zero, suc, ◌≡◌, ◌≢◌, ◌+◌, ◌<◌, ◌≤◌, inl, inr, Bool, true, false, List, [], ◌∷◌, length, refl, arith, sym, ◌∙◌, ap, subst}
use Rattle.std.proofs.Common.{Option, None, Some}
use Rattle.std.specs.Prelude.{◌||◌, eqb}
use Rattle.std.specs.List.{IsDistinct, list_any, AllByRecursion}
use Rattle.std.proofs.lemmas.Bool.Decides.{eqb_tells}
use Rattle.std.proofs.lemmas.Map.Steps.{length-le_from_distinct_below}
use Rattle.mn_wiring.specs.Wiring.{across}
use Rattle.mn_wiring.specs.Paths.{IsLeast, IsNext, IsDist, next, next_by, dists_to}
use Rattle.mn_wiring.proofs.Next.{next_is}
use Rattle.mn_wiring.proofs.Dist.{dists_are_least}
use Rattle.mn_base.proofs.Bools.{clash}
use Rattle.mn_topo.specs.Network.{Network, wiring_of}
use Rattle.mn_topo.specs.Lawful.{IsLawful}
use Rattle.mn_ledger.specs.World.{World}
use Rattle.mn_ledger.specs.Transport.{view_of}
use Rattle.mn_ledger.specs.Settled.{hops_from, route}
use Rattle.mn_ledger.proofs.Nearer.{nearer}
use Rattle.mn_ledger.proofs.Turning.{across-end}
use Rattle.mn_settled_laws.proofs.Offering.{ends_below}
use Rattle.mn_settled_laws.specs.Ways.{links_up, Reaches, KnowTheWays}
use Rattle.mn_settled_laws.specs.Arrival.{GoesBy}

-- 1. Nodes that were passed are farther, so none is passed twice

-- numbers of nodes, with greater least costs than this one
abbrev AreFarther : Network → World → ℕ → ℕ → List ℕ → Type 0
AreFarther t w p d seen = (q : ℕ) → list_any (eqb q) seen ≡ true → (q < length t.loopbacks) × (e : ℕ) × IsLeast (wiring_of t) (links_up t w) q p e × (d < e)

one-least : (t : Network) (w : World) (q p a b : ℕ) → IsLeast (wiring_of t) (links_up t w) q p a → IsLeast (wiring_of t) (links_up t w) q p b → a ≤ b
one-least t w q p a b x y = subst (λ n. a ≤ n) y.walk.2 (x.least y.walk.0 y.walk.1)

not-seen : (t : Network) (w : World) (p d n : ℕ) (seen : List ℕ) → IsLeast (wiring_of t) (links_up t w) n p d → AreFarther t w p d seen
    → list_any (eqb n) seen ≡ false
not-seen t w p d n seen least far = either (list_any (eqb n) seen) refl
  where
    over : {a b : ℕ} → b ≤ a → a < b → ⊥
    over h g = omega (arith, h, g)

    either : (b : Bool) → list_any (eqb n) seen ≡ b → list_any (eqb n) seen ≡ false
    either false e = e
    either true e = let f = far n e in absurd (over (one-least t w n p f.1 d f.2 least) f.3)

pub or-tells : (a b : Bool) → (a || b) ≡ true → a ≡ false → b ≡ true
or-tells true b h e = absurd (clash e)
or-tells false b h e = h

more-seen : (t : Network) (w : World) (p d r n : ℕ) (seen : List ℕ) → n < length t.loopbacks → IsLeast (wiring_of t) (links_up t w) n p d → r < d
    → AreFarther t w p d seen → AreFarther t w p r (n ∷ seen)
more-seen t w p d r n seen below least less far q h = elim (eqb_tells q n) [
  | inl e ↦ (subst (λ j. j < length t.loopbacks) (sym e.1) below, d, subst (λ j. IsLeast (wiring_of t) (links_up t w) j p d) (sym e.1) least, less)
  | inr e ↦ let f = far q (or-tells (eqb q n) (list_any (eqb q) seen) h e.0) in (f.0, f.1, f.2, omega (arith, f.3, less))
]

pub any-none : (x : ℕ) (xs : List ℕ) → list_any (eqb x) xs ≡ false → AllByRecursion (λ y. eqb x y ≡ false) xs
any-none x [] h = tt
any-none x (y ∷ ys) h = let p = or_off (eqb x y) (list_any (eqb x) ys) h in (p.0, any-none x ys p.1)
  where
    or_off : (a b : Bool) → (a || b) ≡ false → (a ≡ false) × (b ≡ false)
    or_off true b h = absurd (clash h)
    or_off false b h = (refl, h)

too-many : (n : ℕ) (seen : List ℕ) (bound : ℕ) → list_any (eqb n) seen ≡ false → IsDistinct eqb seen → n < bound
    → ((q : ℕ) → list_any (eqb q) seen ≡ true → q < bound) → suc (length seen) ≤ bound
unfolding IsDistinct
too-many n seen bound new distinct below all = length-le_from_distinct_below (n ∷ seen) bound (any-none n seen new, distinct) (λ q h. elim (eqb_tells q n) [
  | inl e ↦ subst (λ j. j < bound) (sym e.1) below
  | inr e ↦ all q (or-tells (eqb q n) (list_any (eqb q) seen) h e.0)
])

-- 2. So the route comes to its end before it has as many nodes as there are

module _ (t : Network) (w : World) (lawful : IsLawful t) (ways : KnowTheWays t w) (p : ℕ) (inside : p < length t.loopbacks) where
  abbrev Arrives : ℕ → ℕ → Type 0
  Arrives fuel n = (hops : List ℕ) × (hops_from t w fuel n p ≡ n ∷ hops) × GoesBy t w hops n p

  here : (fuel n : ℕ) → n < length t.loopbacks → n ≡ p → Arrives fuel n
  unfolding next
  here zero n below e = ([], refl, e)
  here (suc fuel) n below e = ([], ap (λ o. elim o as (λ _. List ℕ) [ None ↦ n ∷ [] | Some hop ↦ n ∷ hops_from t w fuel hop.0 p ]) none, e)
    where
      none : next (wiring_of t) (view_of (wiring_of t) w.views n) n p ≡ None
      none = elim (eqb_tells n p) [
        | inl q ↦ ap (λ b. elim b as (λ _. Option (ℕ × ℕ)) [
          | true ↦ None
          | false ↦ next_by (wiring_of t) (view_of (wiring_of t) w.views n) (dists_to (wiring_of t) (view_of (wiring_of t) w.views n) p) n
        ]) q.0
        | inr q ↦ absurd (q.1 e)
      ]

  one-hop : (fuel n : ℕ) (hop : ℕ × ℕ) → n < length t.loopbacks → next (wiring_of t) (links_up t w) n p ≡ Some hop
      → hops_from t w (suc fuel) n p ≡ n ∷ hops_from t w fuel hop.0 p
  one-hop fuel n hop below is =
      ap (λ o. elim o as (λ _. List ℕ) [ None ↦ n ∷ [] | Some h ↦ n ∷ hops_from t w fuel h.0 p ])
      (ap (λ v. next (wiring_of t) v n p) (ways n p below inside).view ∙ is)

  hop-below : (n : ℕ) (hop : ℕ × ℕ) → IsNext (wiring_of t) (links_up t w) n p (Some hop) → hop.0 < length t.loopbacks
  hop-below n hop some =
      let other = across-end (wiring_of t) hop.1 n (lawful.ends_differ hop.1 some.1.there) some.1.at_node in
      subst (λ j. j < length t.loopbacks) (sym some.0) (ends_below t lawful.joins_nodes hop.1 (across (wiring_of t) hop.1 n) some.1.there other.0)

  onward : (fuel n d : ℕ) (seen : List ℕ) → n < length t.loopbacks → IsLeast (wiring_of t) (links_up t w) n p d → IsDistinct eqb seen → AreFarther t w p d seen
      → length t.loopbacks ≤ fuel + length seen → Arrives fuel n
  unfolding IsDistinct
  onward zero n d seen below least distinct far enough =
      absurd (over enough (too-many n seen (length t.loopbacks) (not-seen t w p d n seen least far) distinct below (λ q h. (far q h).0)))
    where
      over : {b k : ℕ} → b ≤ 0 + k → suc k ≤ b → ⊥
      over g h = omega (arith, g, h)
  onward (suc fuel) n d seen below least distinct far enough = elim (eqb_tells n p) [
    | inl e ↦ here (suc fuel) n below e.1
    | inr e ↦ by_hop (λ m r s. onward fuel m r s) e.1 (next (wiring_of t) (links_up t w) n p) refl
        (next_is (wiring_of t) (links_up t w) p lawful.joins_nodes n below e.1)
  ]
    where
      by_hop : ((m r : ℕ) (s : List ℕ) → m < length t.loopbacks → IsLeast (wiring_of t) (links_up t w) m p r → IsDistinct eqb s → AreFarther t w p r s
          → length t.loopbacks ≤ fuel + length s → Arrives fuel m)
          → n ≢ p → (o : Option (ℕ × ℕ)) → next (wiring_of t) (links_up t w) n p ≡ o → IsNext (wiring_of t) (links_up t w) n p o → Arrives (suc fuel) n
      by_hop rest apart None is none = absurd (none least.walk.0 least.walk.1)
      by_hop rest apart (Some hop) is some =
          let near = nearer t (links_up t w) n p d hop lawful below apart is least in
          let on = rest hop.0 near.rest (n ∷ seen) (hop-below n hop some) near.is_least (any-none n seen (not-seen t w p d n seen least far), distinct)
          (more-seen t w p d near.rest n seen below least near.is_less far) (omega (arith, enough)) in
          (hop.0 ∷ on.0, one-hop fuel n hop below is ∙ ap (λ xs. n ∷ xs) on.1, (apart, hop.1, (ways n p below inside).way_is ∙ is, some.0, on.2))

  -- from whom it is reached, by the least cost
  by_cost : (n : ℕ) (o : Option ℕ) → n < length t.loopbacks → Reaches t w n p → IsDist (wiring_of t) (links_up t w) n p o → Arrives (length t.loopbacks) n
  unfolding IsDistinct
  by_cost n None below walk none = absurd (none walk.0 walk.1)
  by_cost n (Some d) below walk least = onward (length t.loopbacks) n d [] below least tt (λ q h. absurd (clash (sym h))) (omega arith)

  pub route_is : (n : ℕ) → n < length t.loopbacks → Reaches t w n p → (hops : List ℕ) × (route t w n p ≡ n ∷ hops) × GoesBy t w hops n p
  route_is n below walk = by_cost n _ below walk (dists_are_least (wiring_of t) (links_up t w) p lawful.joins_nodes n below)
