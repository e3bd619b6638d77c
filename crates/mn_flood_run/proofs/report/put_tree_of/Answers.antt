use Rattle.std.proofs.Common.{subst}
use Rattle.mn_edge.specs.declared.device.DeviceBad.TheVariants.{NoMemory}
use Rattle.mn_topo.specs.Network.{wiring_of}
use Rattle.mn_flood_laws.specs.Flood.{flooded}
use Rattle.mn_linkdb.specs.Trees.{IsTree}
use Rattle.mn_tables.proofs.Telling.{tells_err, tells_want}
use Rattle.mn_flood_run.specs.Report.{tree_text}
use Rattle.mn_flood_run.proofs.report.put_tree_of.Goals as goal

pub returns-in_err-tree : goal.returns-in_err-tree
returns-in_err-tree g c =
    tells_err (tree_text c.args.topology.now (flooded (wiring_of c.args.topology.now) c.args.flood.now.world c.args.node.0) c.args.node.0) _ _ NoMemory _
    c.from_residual.ensures (tells_want _ _)

pub returns : goal.returns
returns g c = c.put_tree.ensures (flooded (wiring_of c.args.topology.now) c.args.flood.now.world c.args.node.0)
    (subst (λ wiring. IsTree wiring (flooded wiring c.args.flood.now.world c.args.node.0) c.args.node.0 c.in_ok-tree.tree) c.requires.over
    c.in_ok-tree.ensures.flooded)
