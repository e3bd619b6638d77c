-- After a lawful journal a step tells of the exports that it touches.
use Rattle.std.proofs.Common.{ℕ, ◌≡◌, ◌≢◌, inl, inr, Bool, true, false, cond, List, [], ◌∷◌, ◌++◌, length, refl, sym, ◌∙◌, ap, subst, Option, Some, None}
use Rattle.std.specs.Prelude.{◌==◌, ◌||◌, not, nat_lt, is_some}
use Rattle.std.specs.List.{list_any}
use Rattle.mn_base.proofs.Bools.{no, same_test, same_numbers, two_ways}
use Rattle.mn_base.proofs.Members.{In, AreApart}
use Rattle.mn_topo.specs.Network.{Network}
use Rattle.mn_topo.specs.declared.steps.Step.{Step}
use Rattle.mn_topo.specs.declared.steps.Step.TheVariants as step
use Rattle.mn_ledger.specs.declared.refused.Refused.TheVariants.{NoRouteThere}
use Rattle.mn_ledger.specs.World.{World}
use Rattle.mn_ledger.specs.Exports.{exports_of, has_target}
use Rattle.mn_ledger.specs.Bgp.{changed}
use Rattle.mn_ledger.specs.Ledger.{is_static, with_target, config_after, world_of, packets_of}
use Rattle.mn_ledger.specs.Packets.{Packets}
use Rattle.mn_ledger.specs.Refusal.{agree, refusal_at}
use Rattle.mn_ledger.proofs.Refusals.{IsFree, free}
use Rattle.mn_ledger.proofs.Statics.{SameStatic, HasStatics, statics_go}
use Rattle.mn_routing_laws.specs.Touched.{told_of}
use Rattle.mn_routing_laws.specs.Changes.{TellsWhatIsTouched}
use Rattle.mn_routing_laws.proofs.GoingOn.{static_there}
use Rattle.mn_routing_laws.proofs.Lawful.{Rests, rests}
use Rattle.mn_routing_laws.proofs.Told.{nothing_changed, add_tells, del_tells, attach_tells, detach_tells, export_tells, import_tells}

-- a set that is changed is another
has_new : (x : ℕ) (xs : List ℕ) → has_target (with_target x true xs) x ≡ true
has_new x [] = ap (λ b. b || false) (same_test x)
has_new x (y ∷ ys) = split (nat_lt x y) (has_new x ys)
  where
    split : (b : Bool) → has_target (with_target x true ys) x ≡ true → has_target (cond b (x ∷ y ∷ ys) (y ∷ with_target x true ys)) x ≡ true
    split true h = ap (λ b. b || ((y == x) || has_target ys x)) (same_test x)
    split false h = ap (λ b. (y == x) || b) h ∙ or_on (y == x)
      where
        or_on : (b : Bool) → (b || true) ≡ true
        or_on true = refl
        or_on false = refl

has_no_more : (x : ℕ) (xs : List ℕ) → has_target (with_target x false xs) x ≡ false
has_no_more x [] = refl
has_no_more x (y ∷ ys) = split (x == y) refl (has_no_more x ys)
  where
    split : (b : Bool) → (x == y) ≡ b → has_target (with_target x false ys) x ≡ false →
        has_target (cond (not b) (y ∷ with_target x false ys) (with_target x false ys)) x ≡ false
    split true e h = h
    split false e h = ap (λ b. b || has_target (with_target x false ys) x) (turned e) ∙ h
      where
        turned : (x == y) ≡ false → (y == x) ≡ false
        turned e = elim (two_ways (y == x)) [ inr f ↦ f | inl f ↦ absurd (no (sym e ∙ ap (λ z. x == z) (same_numbers y x f) ∙ same_test x)) ]

set_differs : (x : ℕ) (on : Bool) (xs : List ℕ) → agree on (has_target xs x) ≡ false → with_target x on xs ≢ xs
set_differs x true xs h e = no (sym h ∙ ap (λ ys. has_target ys x) (sym e) ∙ has_new x xs)
set_differs x false xs h e = no (sym h ∙ ap not (ap (λ ys. has_target ys x) (sym e) ∙ has_no_more x xs))

-- the last of a list without two alike is unlike each other
last_apart : {A : Type 0} (alike : A → A → Type 0) (xs : List A) (x y : A) → AreApart alike (xs ++ y ∷ []) → In xs x → alike x y → ⊥
last_apart alike [] x y h i a = absurd i
last_apart alike (z ∷ zs) x y h i a = elim i [
  | inl e ↦ h.0 y (in_end zs y) (subst (λ w. alike w y) (sym e) a)
  | inr j ↦ last_apart alike zs x y h.1 j a
]
  where
    in_end : {A : Type 0} (zs : List A) (y : A) → In (zs ++ y ∷ []) y
    in_end [] y = inl refl
    in_end (w ∷ ws) y = inr (in_end ws y)

not_attached : (o : Option ℕ) → is_some o ≡ false → o ≡ None
not_attached None h = refl
not_attached (Some k) h = absurd (no (sym h))

tells_by : (t : Network) (w : World) (k : Packets) (n : ℕ) (b : List ℕ) (s : Step) (edge : ℕ) → Rests t w → refusal_at t w k n s b ≡ None → IsFree t w k n s b
    → changed (exports_of t w.config edge) (exports_of t (config_after w.config s) edge) ≡ told_of t w.config s edge
tells_by t w k n b (step.AddRoute s p) edge h none ok =
    let later : HasStatics t (config_after w.config (step.AddRoute s p)).statics = statics_go t w k n (step.AddRoute s p) b none h.statics in
    add_tells t w.config s p edge (λ x i e f. last_apart (SameStatic t) w.config.statics x (record { site = s.0; prefix = p }) later.apart i (e, f))
tells_by t w k n b (step.DelRoute s p) edge h none ok =
    del_tells t w.config s p edge h.statics (static_there s.0 p w.config.statics NoRouteThere (list_any (is_static s.0 p) w.config.statics) refl ok.statics)
tells_by t w k n b (step.Export v on target) edge h none ok =
    export_tells t w.config v target on edge (set_differs target.0 on (w.config.exports v.0) ok.changes)
tells_by t w k n b (step.Import v on target) edge h none ok = import_tells t w.config v target on edge
tells_by t w k n b (step.Attach s) edge h none ok = attach_tells t w.config s edge h.statics (not_attached (w.config.attached s.0) ok.changes)
tells_by t w k n b (step.Detach s) edge h none ok = detach_tells t w.config s edge h.statics
tells_by t w k n b _ edge h none ok = nothing_changed (exports_of t w.config edge)

pub tells_what_is_touched : TellsWhatIsTouched
tells_what_is_touched t es ps e b edge lawful journal fit none =
    tells_by t (world_of t es) (packets_of t es ps) (length es) b e.step edge (rests t es ps lawful journal) none
    (free t (world_of t es) (packets_of t es ps) (length es) e.step b none)
