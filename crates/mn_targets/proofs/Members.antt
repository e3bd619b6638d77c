-- Which targets a list has, before and after a change at one place.
use Rattle.std.proofs.Common.{ℕ, zero, suc, ◌≡◌, ◌<◌, List, ◌∷◌, length, get_or, refl, arith, sym, ◌∙◌, ap, subst, ◌⊎◌, inl, inr, Result, Ok, Err, IfOk}
use Rattle.std.proofs.Common.{IfErr, IsTrue, is_ok, ◌↔◌, rules}
use mathlib.Core.Bool.{false≢true}
use Rattle.std.specs.List.{Contains, insert}
use Rattle.std.proofs.lemmas.List.{get_or_default}
use Rattle.std.proofs.lemmas.List.Sorted.{Contains-permutation, IsPermutation-insert, IsPermutation-sym}
use Rattle.std.proofs.lemmas.Bool.{cases_lt}
use Rattle.mn_base.specs.declared.numbers.Rt.{Rt}
use Rattle.mn_targets.specs.Targets.{IsWith}
use Rattle.mn_targets.specs.Places.{number_at, IsAt, IsGapFor}

abbrev pub zeros : Rt
zeros = record { 0 = 0 }

-- targets of one number are one
pub one_of_number : (t u : Rt) → t.0 ≡ u.0 → t ≡ u
one_of_number t u e = ap (λ n. let r : Rt = record { 0 = n } in r) e

-- 1. A target of the list stands at a place

pub place_of : (l : List Rt) (t : Rt) → Contains l t → (k : ℕ) × ((k < length l) × (number_at l k ≡ t.0))
place_of l t (k, h, e) = (k, (h, ap (λ (r : Rt). r.0) (get_or_default l k zeros t h ∙ e)))

pub at_place : (l : List Rt) (t : Rt) (k : ℕ) → k < length l → number_at l k ≡ t.0 → Contains l t
at_place l t k h e = (k, h, get_or_default l k t zeros h ∙ one_of_number (get_or l k zeros) t e)

pub has_at : (l : List Rt) (t : Rt) (k : ℕ) → IsAt l t k → Contains l t
has_at l t k is_at = at_place l t k is_at.there is_at.same

pub not_in_gap : (l : List Rt) (t : Rt) (k : ℕ) → IsGapFor l t k → Contains l t → ⊥
not_in_gap l t k gap held =
    let p = place_of l t held in
    elim (cases_lt p.0 k) [ inl h ↦ omega (arith, gap.below p.0 h, p.1.1) | inr h ↦ omega (arith, gap.above p.0 h p.1.0, p.1.1) ]

-- a search tells whether the list has the target
pub tells : (l : List Rt) (t : Rt) (r : Result ℕ ℕ) → IfOk r (IsAt l t) → IfErr r (IsGapFor l t) → IsTrue (is_ok r) ↔ Contains l t
tells l t (Ok k) found absent = (λ _. has_at l t k found, λ _. search rules)
tells l t (Err k) found absent = (λ h. absurd (false≢true h), λ held. absurd (not_in_gap l t k absent held))

-- 2. The first and the others

pub here : (x : Rt) (l : List Rt) → Contains (x ∷ l) x
here x l = (0, omega arith, refl)

pub later : (x y : Rt) (l : List Rt) → Contains l y → Contains (x ∷ l) y
later x y l (k, h, e) = (suc k, omega (arith, h), e)

pub first_or_later : (x y : Rt) (l : List Rt) → Contains (x ∷ l) y → (y ≡ x) ⊎ Contains l y
first_or_later x y l (zero, h, e) = inl (sym e)
first_or_later x y l (suc k, h, e) = inr (k, omega (arith, h), e)

-- 3. One more, and one less

pub with_insert : (l : List Rt) (t : Rt) (k : ℕ) → IsWith l (insert l k t) t
with_insert l t k other =
    let moved = IsPermutation-insert l k t in (
      λ h. elim (first_or_later t other l (Contains-permutation (insert l k t) (t ∷ l) other (IsPermutation-sym (t ∷ l) (insert l k t) moved) h))
          [ inl e ↦ inr e | inr i ↦ inl i ],
      λ h. Contains-permutation (t ∷ l) (insert l k t) other moved
          (elim h [ inl i ↦ later t other l i | inr e ↦ subst (λ u. Contains (t ∷ l) u) (sym e) (here t l) ]),
    )
