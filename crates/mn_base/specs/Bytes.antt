-- Bytes, as contracts see them: numbers below 256.
use Rattle.std.specs.Prelude.{ℕ, ◌<◌, List, slice_index}

-- what a packet or a file holds
pub record IsBytes (bytes : List ℕ) : Type 0 where
  pub below : (i : ℕ) → slice_index bytes i < 256
