use Rattle.std.proofs.Common.{◌≡◌, ◌≤◌, length, drop, []}
use Rattle.toml.specs.View.{items_view}
use Rattle.mn_topo_toml.specs.Tables.{tables_of}
use Rattle.mn_topo_toml.specs.Links.{links_from}
use Rattle.mn_topo_toml.proofs.links.read_links.Given as goal

abbrev pub invariant-loop-value : goal.invariant-loop-value
invariant-loop-value l = record {
  rest : links_from l.nodes.names (tables_of (items_view (drop l.value-index l.values))) l.links ≡ links_from l.nodes.names
      (tables_of (items_view l.values)) [];
  count : length l.links ≤ l.value-index;
}
