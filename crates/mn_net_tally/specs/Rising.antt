-- Numbers that ascend, and the search among them.
use Rattle.std.specs.Prelude.{◌≡◌, ◌≤◌, ◌<◌, ℕ, List, length, slice_index}
use Rattle.std.specs.List.{AllPairs}

abbrev pub AreRising : List ℕ → Type 0
AreRising numbers = AllPairs (λ earlier later. earlier < later) numbers

-- numbers in front of the place are below this one, and the others aren't
pub record IsSplit (numbers : List ℕ) (number place : ℕ) : Type 0 where
  pub within : place ≤ length numbers
  pub below : (k : ℕ) → k < place → slice_index numbers k < number
  pub rest : (k : ℕ) → place ≤ k → k < length numbers → number ≤ slice_index numbers k
