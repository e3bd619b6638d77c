-- The lines of a table that one number leaves.
use Rattle.std.specs.Prelude.{ℕ, ◌==◌, not, nat_lt, if◌then◌else◌, List, []}
use Rattle.mn_topo.specs.Network.{Network, wiring_of}
use Rattle.mn_topo.specs.VrfTable.{is_edge}
use Rattle.mn_ledger.specs.World.{World}
use Rattle.mn_ledger.specs.Transport.{view_of}
use Rattle.mn_output_laws.specs.Tables.{bgp_line, bgp_lines, tree_line}

-- towards another node, and none towards the node itself
abbrev pub walk_row : Network → World → ℕ → ℕ → List ℕ
walk_row topology world node to = if not (to == node) then tree_line topology (view_of (wiring_of topology) world.views node) node to else []

-- with an edge of greater number
abbrev pub pair_row : Network → World → ℕ → ℕ → List ℕ
pair_row topology world a b = if is_edge topology.vrfs b then (if nat_lt a b then bgp_line topology world a b else []) else []

-- of an edge with each of greater number
abbrev pub edge_rows : Network → World → ℕ → List ℕ
edge_rows topology world a = if is_edge topology.vrfs a then bgp_lines topology world a else []
