-- What contracts see of a packet's path.
use Rattle.std.specs.Prelude.{ℕ, List, [], ◌∷◌, ◌++◌, ◌-◌, slice_index_or}
use Rattle.mn_base.specs.declared.numbers.NodeNo.{NodeNo}

pub record Visits : Type 0 where
  pub nodes : List NodeNo  -- at which the packet was, in order
  pub room : ℕ  -- how many more there is memory for

-- the path of a packet, by number
abbrev pub path_of : List Visits → ℕ → Visits
path_of paths packet = slice_index_or paths packet (record { nodes = []; room = 0 })

-- the packet is at one node more
abbrev pub further : Visits → NodeNo → Visits
further path node = record { nodes = path.nodes ++ node ∷ []; room = path.room - 1 }
