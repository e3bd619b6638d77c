-- Ascending lists: what a search finds in them, and the changes that keep them ascending.
use Rattle.std.proofs.Common.{ℕ, ◌≡◌, ◌≢◌, ◌+◌, ◌-◌, ◌<◌, ◌≤◌, List, ◌∷◌, length, get_or, arith, sym, ◌∙◌, ap, subst, inl, inr, Result, Ok, Err, IfOk, IfErr}
use Rattle.std.specs.List.{insert, remove}
use Rattle.std.specs.List.Sorted.{IsSearchInRange, IsBinarySearchResult, IsNonDecreasingBy}
use Rattle.std.specs.Ordering.{nat_cmp, ordering_index}
use Rattle.std.proofs.lemmas.Cmp.{ranked}
use Rattle.std.proofs.lemmas.List.{get_or_default}
use Rattle.std.proofs.lemmas.List.Sorted.{IsNonDecreasingBy-from_default, Contains-permutation, IsPermutation-remove, IsPermutation-sym}
use Rattle.std.proofs.lemmas.List.Edits.{length-insert, get_or-insert_below, get_or-insert_at, get_or-insert_above, get_or-remove_below}
use Rattle.std.proofs.lemmas.List.Edits.{get_or-remove_above, length-remove}
use Rattle.std.proofs.lemmas.Bool.{cases_lt}
use Rattle.std.proofs.lemmas.Bool.Decides.{nat_tests}
use Rattle.mn_base.specs.declared.numbers.Rt.{Rt}
use Rattle.mn_targets.specs.Targets.{IsAscending, IsWithout}
use Rattle.mn_targets.specs.Places.{number_at, IsAt, IsGapFor}
use Rattle.mn_targets.proofs.Members.{zeros, one_of_number, place_of, later, first_or_later}

-- ascending, place by place
abbrev pub Ascends : List Rt → Type 0
Ascends l = (i j : ℕ) → i < j → j < length l → number_at l i < number_at l j

pub ascends : (l : List Rt) → IsAscending l → Ascends l
ascends l up i j h there = up i j zeros h there

pub ascending : (l : List Rt) → Ascends l → IsAscending l
ascending l up i j d h there =
    let low : (get_or l i d).0 ≡ number_at l i = ap (λ (r : Rt). r.0) (get_or_default l i d zeros (omega (arith, h, there))) in
    let high : (get_or l j d).0 ≡ number_at l j = ap (λ (r : Rt). r.0) (get_or_default l j d zeros there) in
    omega (arith, low, high, up i j h there)

-- 1. A search ends at the target, or at the gap for it

module _ (l : List Rt) (up : IsAscending l) (t : Rt) where
  comparisons_rise : IsNonDecreasingBy (λ u. ordering_index (nat_cmp u.0 t.0)) l
  comparisons_rise = IsNonDecreasingBy-from_default (λ (u : Rt). ordering_index (nat_cmp u.0 t.0)) l zeros (λ i j le there.
      let rise : number_at l i ≤ number_at l j = grind (arith, ascends l up i j, λ (same : i ≡ j). ap (number_at l) same) in
      grind (arith, nat_tests))

  pub searched : (r : Result ℕ ℕ) → IsSearchInRange r (length l) → IsBinarySearchResult (λ (u : Rt). nat_cmp u.0 t.0) l r →
      record { found : IfOk r (IsAt l t); absent : IfErr r (IsGapFor l t) }
  searched (Ok at) within equal = record { found = record { there = within; same = ranked _ t.0 _ (sym (equal zeros)) }; absent = tt }
  searched (Err at) within parted = record {
    found = tt;
    absent = record {
      within = within;
      below = λ k lt. ranked _ t.0 _ (sym ((parted comparisons_rise).0 k zeros (omega arith) lt));
      above = λ k le lt. ranked _ t.0 _ (sym ((parted comparisons_rise).1 k zeros le lt));
    };
  }

-- 2. One more keeps the order

pub ascending_insert : (l : List Rt) (t : Rt) (at : ℕ) → IsGapFor l t at → IsAscending l → IsAscending (insert l at t)
ascending_insert l t at gap up =
    let new : List Rt = insert l at t in
    let number = λ (r : Rt). r.0 in
    let length_new = length-insert l at t gap.within in
    let old = ascends l up in
    let below : (k : ℕ) → k < at → number_at new k ≡ number_at l k = λ k h. ap number (get_or-insert_below l at t zeros k h gap.within) in
    let here : (k : ℕ) → k ≡ at → number_at new k ≡ t.0 = λ k h. rw h (ap number (get_or-insert_at l at t zeros gap.within)) in
    let above : (k : ℕ) → at < k → number_at new k ≡ number_at l (k - 1) =
    λ k h. subst (λ q. number_at new q ≡ number_at l (k - 1)) {x =
    k - 1 + 1} (omega arith) (ap number (get_or-insert_above l at t zeros (k - 1) (omega arith) gap.within)) in
    ascending new
    (λ i j lt there. grind
    (arith, below i, here i, above i, below j, here j, above j, old i j, old i (j - 1), old (i - 1) (j - 1), gap.below i, gap.above (j - 1)))

-- 3. One less: the others stay, in order, and none of them is the target

module _ (l : List Rt) (t : Rt) (at : ℕ) (is_at : IsAt l t at) (up : IsAscending l) where
  -- where an element of the shorter list stood
  stood_below : (k : ℕ) → k < at → number_at (remove l at) k ≡ number_at l k
  stood_below k h = ap (λ (r : Rt). r.0) (get_or-remove_below l at zeros k h is_at.there)

  stood_above : (k : ℕ) → at ≤ k → number_at (remove l at) k ≡ number_at l (k + 1)
  stood_above k h = ap (λ (r : Rt). r.0) (get_or-remove_above l at zeros k h is_at.there)

  pub ascending_remove : IsAscending (remove l at)
  ascending_remove =
      let one_less = length-remove l at is_at.there in
      let old = ascends l up in
      ascending (remove l at)
      (λ i j lt there. grind (arith, stood_below i, stood_above i, stood_below j, stood_above j, old i j, old i (j + 1), old (i + 1) (j + 1)))

  other_number : (k : ℕ) → k < length (remove l at) → number_at (remove l at) k ≢ t.0
  other_number k h same =
      let one_less = length-remove l at is_at.there in
      let there = is_at.there in
      let number = is_at.same in
      elim (cases_lt k at) [
        | inl lt ↦ omega (arith, stood_below k lt, ascends l up k at lt there, same, number)
        | inr le ↦ omega (arith, stood_above k le, ascends l up at (k + 1) (omega arith) (omega (arith, h, one_less)), same, number)
      ]

  pub without_removed : IsWithout l (remove l at) t
  without_removed other =
      let x : Rt = get_or l at zeros in
      let moved = IsPermutation-remove l at x is_at.there (get_or_default l at zeros x is_at.there) in
      let x_is : x ≡ t = one_of_number x t is_at.same in (
        λ h. (
          Contains-permutation (x ∷ remove l at) l other (IsPermutation-sym l (x ∷ remove l at) moved) (later x other (remove l at) h),
          λ e. let p = place_of (remove l at) other h in other_number p.0 p.1.0 (p.1.1 ∙ ap (λ (r : Rt). r.0) e),
        ),
        λ h. elim (first_or_later x other (remove l at) (Contains-permutation l (x ∷ remove l at) other moved h.0))
            [ inl e ↦ absurd (h.1 (e ∙ x_is)) | inr i ↦ i ],
      )
