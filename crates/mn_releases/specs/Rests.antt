-- Since when a node's FECs are at rest, and what neighbours owe: RFC 5036, section 3.5.11.
use Rattle.std.specs.Prelude.{ℕ, ◌+◌, ◌-◌, ◌==◌, ◌&&◌, Bool, nat_lt, List, length, slice_index_or, slice_set, replicate, Option, Some, None}
use Rattle.std.specs.List.{list_all}

-- what contracts see
pub record Resting : Type 0 where
  pub owed : List (Option (List ℕ))  -- by neighbour and FEC, how many Releases the neighbour owes; none where it isn't open
  pub rested : List ℕ  -- by FEC, the tick of the last step that laid it to rest
  pub life : ℕ  -- the greatest life of the node's links

abbrev pub at_first : ℕ → ℕ → Resting
at_first nodes life = record { owed = replicate nodes None; rested = replicate nodes 0; life = life }

abbrev pub row_of : Resting → ℕ → Option (List ℕ)
row_of resting neighbour = slice_index_or resting.owed neighbour None

abbrev pub count_in : Option (List ℕ) → ℕ → ℕ
count_in None fec = 0
count_in (Some row) fec = slice_index_or row fec 0

abbrev pub with_count : Option (List ℕ) → ℕ → ℕ → Option (List ℕ)
with_count None fec count = None
with_count (Some row) fec count = Some (slice_set row fec count)

abbrev pub opened : Resting → ℕ → Resting
opened resting neighbour = record resting { owed = slice_set resting.owed neighbour (Some (replicate (length resting.rested) 0)) }

-- a session ends: what it owed is forgotten, and whatever is at rest then rests since now
abbrev pub closed : Resting → ℕ → ℕ → Resting
closed resting neighbour tick =
    record resting { owed = slice_set resting.owed neighbour None; rested = replicate (length resting.rested) tick }

abbrev pub withdrawn : Resting → ℕ → ℕ → Resting
withdrawn resting neighbour fec =
    record resting { owed = slice_set resting.owed neighbour (with_count (row_of resting neighbour) fec (count_in (row_of resting neighbour) fec + 1)) }

abbrev pub released : Resting → ℕ → ℕ → ℕ → Resting
released resting neighbour fec tick =
    record resting {
      owed = slice_set resting.owed neighbour (with_count (row_of resting neighbour) fec (count_in (row_of resting neighbour) fec - 1));
      rested = slice_set resting.rested fec tick;
    }

abbrev pub stopped : Resting → ℕ → ℕ → Resting
stopped resting fec tick = record resting { rested = slice_set resting.rested fec tick }

abbrev pub owes_none : ℕ → Option (List ℕ) → Bool
owes_none fec row = count_in row fec == 0

-- no neighbour owes a Release, and no frame that was sent before the rest flies any more
abbrev pub is_over : Resting → ℕ → ℕ → Bool
is_over resting tick fec = list_all (owes_none fec) resting.owed && nat_lt (slice_index_or resting.rested fec 0 + resting.life) tick
