-- Least costs and next hops, by node.
use Rattle.std.specs.Prelude.{ℕ, ◌≡◌, List, length, slice_index_or, slice_set, replicate, Option, None}
use Rattle.mn_base.specs.declared.numbers.NodeNo.{NodeNo}

-- by node, the cost of a least walk to it and the neighbour to which the walk goes first
pub record PathTable : Type 0 where
  pub dists : List (Option ℕ)
  pub nexts : List (Option NodeNo)

abbrev pub dist_at : PathTable → ℕ → Option ℕ
dist_at table to = slice_index_or table.dists to None

abbrev pub next_at : PathTable → ℕ → Option NodeNo
next_at table to = slice_index_or table.nexts to None

-- nothing is known of so many nodes
abbrev pub nothing_known : ℕ → PathTable
nothing_known nodes = record { dists = replicate nodes None; nexts = replicate nodes None }

-- the two entries of one node are these
abbrev pub with_entries : PathTable → ℕ → Option ℕ → Option NodeNo → PathTable
with_entries table to dist next = record { dists = slice_set table.dists to dist; nexts = slice_set table.nexts to next }

-- of each node there is a cost and a next hop, or none
pub record IsTable (nodes : ℕ) (table : PathTable) : Type 0 where
  pub dists : length table.dists ≡ nodes
  pub nexts : length table.nexts ≡ nodes
