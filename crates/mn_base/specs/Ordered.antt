-- Lists that are kept in an order, one element at each place of it.
use Rattle.std.specs.Prelude.{◌≡◌, ◌<◌, ◌≤◌, ℕ, length, slice_index_or, ◌||◌, ◌&&◌, ◌==◌, nat_lt, not, Bool, true, false, List, [], ◌∷◌, ◌++◌, filter}
use Rattle.std.specs.Prelude.{if◌then◌else◌, Option, Some, None}
use Rattle.std.specs.List.{AllByRecursion, AllPairs, list_any}
use Rattle.mn_base.specs.declared.numbers.Rt.{Rt}

-- with this one in its place: those before it, it, and those after it; what stood in its place is gone
abbrev pub with_one : {A : Type 0} → (A → A → Bool) → A → List A → List A
with_one before x xs = filter (λ y. before y x) xs ++ x ∷ filter (λ y. before x y) xs

-- without the one in its place
abbrev pub without_one : {A : Type 0} → (A → A → Bool) → A → List A → List A
without_one before x xs = filter (λ y. before y x || before x y) xs

-- one of them stands in its place
abbrev pub has_one : {A : Type 0} → (A → A → Bool) → A → List A → Bool
has_one before x xs = list_any (λ y. not (before y x || before x y)) xs

-- the one that stands in its place
abbrev pub one_at : {A : Type 0} → (A → A → Bool) → A → List A → Option A
one_at before x [] = None
one_at before x (y ∷ ys) = if before y x || before x y then one_at before x ys else Some y

-- each comes before all that stand after it
abbrev pub Ascends : {A : Type 0} → (A → A → Bool) → List A → Type 0
Ascends before [] = Unit {0}
Ascends before (x ∷ xs) = AllByRecursion (λ y. before x y ≡ true) xs × Ascends before xs

-- an order that tells any two places apart
pub record IsOrder {A : Type 0} (before : A → A → Bool) : Type 0 where
  pub onward : (x y z : A) → before x y ≡ true → before y z ≡ true → before x z ≡ true
  pub one_way : (x y : A) → before x y ≡ true → before y x ≡ true → ⊥
  -- what is in one place is alike to all others
  pub alike : (x y z : A) → (before x y || before y x) ≡ false → before x z ≡ before y z
  pub alike_back : (x y z : A) → (before x y || before y x) ≡ false → before z x ≡ before z y

-- the place among ascending elements for one: those before the place come before it, and no others do
pub record IsPlaceFor {A : Type 0} (before : A → A → Bool) (xs : List A) (x : A) (at : ℕ) : Type 0 where
  pub within : at ≤ length xs
  pub below : (k : ℕ) (d : A) → k < at → before (slice_index_or xs k d) x ≡ true
  pub above : (k : ℕ) (d : A) → at ≤ k → k < length xs → before (slice_index_or xs k d) x ≡ false

-- by a number, and where that is the same by something else
abbrev pub first_by : ℕ → ℕ → Bool → Bool
first_by m n later = nat_lt m n || ((m == n) && later)

-- the element at this place doesn't come after it: it stands in its place
pub record StandsAt {A : Type 0} (before : A → A → Bool) (xs : List A) (x : A) (at : ℕ) : Type 0 where
  pub there : at < length xs
  pub same : (d : A) → before x (slice_index_or xs at d) ≡ false

-- an element at this place comes after it
abbrev pub StandsBehind : {A : Type 0} → (A → A → Bool) → List A → A → ℕ → Type 0
StandsBehind before xs x at = (d : _) → at < length xs → before x (slice_index_or xs at d) ≡ true

-- each target is below all that come after it, as the big-endian number of its eight bytes
abbrev pub IsAscending : List Rt → Type 0
IsAscending targets = AllPairs (λ earlier later. earlier.0 < later.0) targets
