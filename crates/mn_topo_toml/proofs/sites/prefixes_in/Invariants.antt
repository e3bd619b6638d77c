use Rattle.std.proofs.Common.{◌≡◌, drop, []}
use Rattle.toml.specs.View.{items_view}
use Rattle.mn_topo_toml.specs.Sites.{prefixes_from}
use Rattle.mn_topo_toml.proofs.sites.prefixes_in.Given as goal

abbrev pub invariant-loop-value : goal.invariant-loop-value
invariant-loop-value l = prefixes_from l.prefixes.items (items_view (drop l.value-index l.values)) ≡ prefixes_from [] (items_view l.values)
