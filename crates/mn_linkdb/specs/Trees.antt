-- RFC 2328, section 16.1: from a root, the least walks over the links that are up in a view.
use Rattle.std.specs.Prelude.{map, ℕ, ◌≡◌, ◌≢◌, ◌<◌, length, Option, Some, None}
use Rattle.mn_base.specs.declared.numbers.NodeNo.{NodeNo}
use Rattle.mn_wiring.specs.Wiring.{Wiring, View, nodes_of}
use Rattle.mn_wiring.specs.Paths.{IsDist, IsNext, dist_in, dists_to, next}
use Rattle.mn_linkdb.specs.PathTable.{PathTable, IsTable, dist_at, next_at}

-- of the neighbours to which a least walk goes first, the one of least number; none where there is no walk
abbrev pub IsNextHop : Wiring → View → ℕ → ℕ → Option NodeNo → Type 0
IsNextHop wiring view from to (Some hop) = (l : ℕ) × IsNext wiring view from to (Some (hop.0, l))
IsNextHop wiring view from to None = IsNext wiring view from to None

-- for each node, the least cost of a walk from the root and the next hop on such a walk; the root itself has no next hop
pub record IsTree (wiring : Wiring) (view : View) (root : ℕ) (table : PathTable) : Type 0 where
  pub one_each : IsTable (length wiring.loopbacks) table
  pub dists : (to : ℕ) → to < length wiring.loopbacks → IsDist wiring view root to (dist_at table to)
  pub nexts : (to : ℕ) → to < length wiring.loopbacks → to ≢ root → IsNextHop wiring view root to (next_at table to)
  pub root_itself : next_at table root ≡ None

-- the neighbour alone, without the link to it
abbrev pub hop_alone : Option (ℕ × ℕ) → Option NodeNo
hop_alone (Some hop) = Some (record { 0 = hop.0 })
hop_alone None = None

-- the tree as it can be computed, node by node
abbrev pub computed_tree : Wiring → View → ℕ → PathTable
computed_tree wiring view root =
    record {
      dists = map (λ to. dist_in (dists_to wiring view to) root) (nodes_of wiring);
      nexts =
          map (λ to. hop_alone (next wiring view root to)) (nodes_of wiring);
    }
