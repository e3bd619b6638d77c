use Rattle.std.proofs.Common.{◌≡◌, ◌≤◌, length, drop}
use Rattle.toml.specs.View.{items_view}
use Rattle.mn_topo_toml.specs.Tables.{tables_of}
use Rattle.mn_topo.specs.SiteTable.{no_sites, statics_of}
use Rattle.mn_topo_toml.specs.Sites.{sites_from}
use Rattle.mn_topo_toml.proofs.sites.read_sites.Given as goal

abbrev pub invariant-loop-value : goal.invariant-loop-value
invariant-loop-value l = record {
  rest : sites_from l.vrfs.names (tables_of (items_view (drop l.value-index l.values))) l.sites ≡ sites_from l.vrfs.names
      (tables_of (items_view l.values)) no_sites;
  statics : l.statics ≡ statics_of l.sites.sites;
  count : length l.sites.names ≤ l.value-index;
}
