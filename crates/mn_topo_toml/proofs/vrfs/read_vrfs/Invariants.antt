use Rattle.std.proofs.Common.{◌≡◌, ◌≤◌, length, drop}
use Rattle.toml.specs.View.{items_view}
use Rattle.mn_topo_toml.specs.Tables.{tables_of}
use Rattle.mn_topo.specs.VrfTable.{no_vrfs}
use Rattle.mn_topo_toml.specs.Vrfs.{vrfs_from}
use Rattle.mn_topo_toml.proofs.vrfs.read_vrfs.Given as goal

abbrev pub invariant-loop-value : goal.invariant-loop-value
invariant-loop-value l = record {
  rest : vrfs_from l.nodes.names (tables_of (items_view (drop l.value-index l.values))) l.vrfs ≡ vrfs_from l.nodes.names
      (tables_of (items_view l.values)) no_vrfs;
  count : length l.vrfs.names ≤ l.value-index;
}
