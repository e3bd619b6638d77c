use Rattle.std.proofs.Common.{◌≡◌, drop, []}
use Rattle.toml.specs.View.{items_view}
use Rattle.mn_topo_toml.specs.Vrfs.{targets_from}
use Rattle.mn_topo_toml.proofs.vrfs.target_set.Given as goal

abbrev pub invariant-loop-value : goal.invariant-loop-value
invariant-loop-value l = targets_from l.targets.items (items_view (drop l.value-index l.texts)) ≡ targets_from [] (items_view l.texts)
