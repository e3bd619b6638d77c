use Rattle.std.proofs.Common.{◌≡◌, ◌≤◌, length, drop}
use Rattle.toml.specs.View.{items_view}
use Rattle.mn_topo_toml.specs.Tables.{tables_of}
use Rattle.mn_topo.specs.Nodes.{no_nodes}
use Rattle.mn_topo_toml.specs.Nodes.{nodes_from}
use Rattle.mn_topo_toml.proofs.nodes.read_nodes.Given as goal

abbrev pub invariant-loop-value : goal.invariant-loop-value
invariant-loop-value l = record {
  rest : nodes_from (tables_of (items_view (drop l.value-index l.values))) l.nodes ≡ nodes_from (tables_of (items_view l.values)) no_nodes;
  count : length l.nodes.names ≤ l.value-index;
}
