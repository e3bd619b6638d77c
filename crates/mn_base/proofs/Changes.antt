-- What a search among ascending elements tells of a change at its place.
use Rattle.std.proofs.Common.{ℕ, zero, suc, ◌≡◌, ◌+◌, ◌<◌, ◌≤◌, Bool, true, false, List, [], ◌∷◌, ◌++◌, length, get_or, take, drop, refl, arith, sym, ◌∙◌, ap}
use Rattle.std.specs.Prelude.{slice_set}
use Rattle.std.proofs.lemmas.List.{get_or_default}
use Rattle.std.specs.List.{insert, remove}
use Rattle.mn_base.proofs.Bools.{none_below}
use Rattle.mn_base.specs.Ordered.{Ascends, IsOrder, IsPlaceFor, StandsAt, StandsBehind, with_one, without_one}
use Rattle.mn_base.proofs.Places.{earlier, later, with_absent, with_held, without_held, without_absent}

set_parts : {A : Type 0} (xs : List A) (x : A) (at : ℕ) → at < length xs → slice_set xs at x ≡ take at xs ++ x ∷ drop (suc at) xs
set_parts [] x at h = absurd (none_below at h)
set_parts (y ∷ ys) x zero h = refl
set_parts (y ∷ ys) x (suc at) h = ap (λ zs. y ∷ zs) (set_parts ys x at (omega (arith, h)))

remove_parts : {A : Type 0} (xs : List A) (at : ℕ) → at < length xs → remove xs at ≡ take at xs ++ drop (suc at) xs
remove_parts [] at h = absurd (none_below at h)
remove_parts (y ∷ ys) zero h = refl
remove_parts (y ∷ ys) (suc at) h = ap (λ zs. y ∷ zs) (remove_parts ys at (omega (arith, h)))

module _ {A : Type 0} (before : A → A → Bool) (order : IsOrder before) (xs : List A) (x : A) (at : ℕ) (up : Ascends before xs)
    (p : IsPlaceFor before xs x at) where
  pub replaced : StandsAt before xs x at → slice_set xs at x ≡ with_one before x xs
  replaced s = set_parts xs x at s.there ∙ sym (with_held before order xs up x at p s.there s.same)

  pub inserted : StandsBehind before xs x at → insert xs at x ≡ with_one before x xs
  inserted s = sym (with_absent before order xs up x at p s)

  pub removed : StandsAt before xs x at → remove xs at ≡ without_one before x xs
  removed s = remove_parts xs at s.there ∙ sym (without_held before order xs up x at p s.there s.same)

  pub stays : StandsBehind before xs x at → xs ≡ without_one before x xs
  stays s = sym (without_absent before order xs up x at p s)

module _ {A : Type 0} (before : A → A → Bool) (order : IsOrder before) (xs : List A) (x : A) (middle : ℕ) (up : Ascends before xs)
    (there : middle < length xs) (y : A) (is : y ≡ get_or xs middle y) where
  found : (b : Bool) → before y x ≡ b → (d : A) → before (get_or xs middle d) x ≡ b
  found b e d = ap (λ z. before z x) (get_or_default xs middle d y there ∙ sym is) ∙ e

  -- the half below the middle, and the half above it
  pub lower_half : before y x ≡ true → (k : ℕ) (d : A) → k < middle + 1 → before (get_or xs k d) x ≡ true
  lower_half e k d le = earlier before order xs up x k middle d d (omega (arith, le)) there refl (found true e d)

  pub upper_half : before y x ≡ false → (k : ℕ) (d : A) → middle ≤ k → k < length xs → before (get_or xs k d) x ≡ false
  upper_half e k d le lt = later before order xs up x middle k d le lt (found false e d)
