-- An edge at the start.
use Rattle.std.specs.Prelude.{ℕ, [], if◌then◌else◌, Option, Some, None}
use Rattle.mn_topo.specs.Network.{Network}
use Rattle.mn_topo.specs.VrfTable.{is_edge}
use Rattle.mn_ledger.specs.Ledger.{first_config}
use Rattle.mn_pe.specs.Edge.{Edge}
use Rattle.mn_routing_laws.specs.Standing.{edge_in}
use Rattle.mn_reflect_world_laws.specs.Labels.{first_labels}
use Rattle.mn_reflect_world_laws.specs.Edges.{Decisions, all_live, as_peerings}

-- nothing is decided yet
abbrev pub nothing_decided : Decisions
nothing_decided edge home = []

abbrev pub first_edge : Network → ℕ → Edge
first_edge topology node = edge_in topology (first_labels topology) (all_live topology (first_config topology)) (as_peerings nothing_decided) node

abbrev pub first_edge_or_none : Network → ℕ → Option Edge
first_edge_or_none topology node = if is_edge topology.vrfs node then Some (first_edge topology node) else None
