-- Where a target stands among ascending targets, or would stand.
use Rattle.std.specs.Prelude.{◌≡◌, ◌<◌, ◌≤◌, ℕ, List, length, slice_index_or}
use Rattle.mn_base.specs.declared.numbers.Rt.{Rt}

-- the number of the target at a place
abbrev pub number_at : List Rt → ℕ → ℕ
number_at targets place = let target = slice_index_or targets place (record { 0 = 0 }) in target.0

-- the target stands at this place
pub record IsAt (targets : List Rt) (target : Rt) (place : ℕ) : Type 0 where
  pub there : place < length targets
  pub same : number_at targets place ≡ target.0

-- the target would stand at this place: those before it are below it, and the others are above it
pub record IsGapFor (targets : List Rt) (target : Rt) (place : ℕ) : Type 0 where
  pub within : place ≤ length targets
  pub below : (k : ℕ) → k < place → number_at targets k < target.0
  pub above : (k : ℕ) → place ≤ k → k < length targets → target.0 < number_at targets k
