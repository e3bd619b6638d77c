-- One static that comes to the VRFs that are to hold it, or goes, if its site has a label.
use Rattle.std.proofs.Common.{ℕ, ◌≡◌, Bool, true, false, not, List, [], ◌∷◌, map, refl, sym, ◌∙◌, ap, append-nil, Option, Some, None, subst}
use Rattle.std.specs.Prelude.{is_some}
use Rattle.mn_base.specs.declared.numbers.VrfNo.{VrfNo}
use Rattle.mn_base.proofs.Bools.{no}
use Rattle.mn_rib_in.specs.Heard.{Heard}
use Rattle.mn_vrf.specs.Vrf.{Static, VrfState, Holding}
use Rattle.mn_pe.specs.Edge.{Edge, after_vrf}
use Rattle.mn_pe.specs.Pe.{PeNow}
use Rattle.mn_pe.proofs.Becomes.{Becomes, working, seen}
use Rattle.mn_pe.specs.Changes.{Change, with_changes, spread_to, spreading, spread_over, present_of, IsSpread}

pub none_is : (o : Option ℕ) (b : Bool) → is_some o ≡ not b → b ≡ true → o ≡ None
none_is None b e f = refl
none_is (Some l) b e f = absurd (no (sym (e ∙ ap not f)))

pub some_is : (o : Option ℕ) (b : Bool) → is_some o ≡ not b → b ≡ false → (l : ℕ) × (o ≡ Some l)
some_is None b e f = absurd (no (e ∙ ap not f))
some_is (Some l) b e f = (l, refl)

same_all : {A B : Type 0} (f g : A → B) → ((x : A) → f x ≡ g x) → (xs : List A) → map f xs ≡ map g xs
same_all f g h [] = refl
same_all f g h (x ∷ xs) = ap (λ y. y ∷ map f xs) (h x) ∙ ap (λ ys. g x ∷ ys) (same_all f g h xs)

itself : (hs : List Holding) → hs ≡ map (λ (h : Holding). h) hs
itself [] = refl
itself (h ∷ hs) = ap (λ gs. h ∷ gs) (itself hs)

-- without a label nothing is changed
pub none_spread : (teller : VrfState) (on : Bool) (s : Static) (label : Option ℕ) (hs : List Holding) → label ≡ None
    → hs ≡ map (λ (h : Holding). with_changes (spread_over teller on (present_of label s) h.vrf) h) hs
none_spread teller on s label hs e =
    itself hs ∙ ap (λ o. map (λ (h : Holding). with_changes (spread_over teller on (present_of o s) h.vrf) h) hs) (sym e)

-- and with one the static is
pub one_spread : (teller : VrfState) (on : Bool) (s : Static) (label : Option ℕ) (l : ℕ) (hs : List Holding) → label ≡ Some l
    → map (spreading teller on s) hs ≡ map (λ (h : Holding). with_changes (spread_over teller on (present_of label s) h.vrf) h) hs
one_spread teller on s label l hs e =
    same_all (spreading teller on s) (λ (h : Holding). with_changes (spread_over teller on (s ∷ []) h.vrf) h)
    (λ h. ap (λ (cs : List Change). with_changes cs h) (sym (append-nil (spread_to teller on s h.vrf)))) hs
    ∙ ap (λ o. map (λ (h : Holding). with_changes (spread_over teller on (present_of o s) h.vrf) h) hs) (sym e)

-- a spread by these labels, of this static
pub spread_as : (v : ℕ) (on : Bool) {seen labels : List (Option ℕ)} {r s : Static} {old new : List Holding} → seen ≡ labels → r ≡ s →
    IsSpread seen v on r old new → IsSpread labels v on s old new
spread_as v on {seen = seen} {s = s} {old = old} {new = new} labels_are static_is spread =
    subst (λ ls. IsSpread ls v on s old new) labels_are (subst (λ (r : Static). IsSpread seen v on r old new) static_is spread)

-- the VRF of its site has changed, as contracts see it
pub seen_vrf : (change : VrfState → VrfState) {holdings : List Holding} {sites : List VrfNo} {labels : List (Option ℕ)} {loopbacks : List ℕ}
    {heard : List (List Heard)} {edge : Edge} {failed : Bool} {old : PeNow} {v w : ℕ} →
    (let p : PeNow = record { edge = edge; failed = failed } in p) ≡ old → v ≡ w → Becomes holdings sites labels loopbacks heard (after_vrf edge v change) →
    Becomes holdings sites labels loopbacks heard (after_vrf old.edge w change)
seen_vrf change {old = old} {v = v} view same now =
    let here = seen (λ edge. after_vrf edge v change) view now in
    record { sound = here.sound; is = here.is ∙ ap (λ n. working (after_vrf old.edge n change)) same }
