use Rattle.std.proofs.Common.{take}
use Rattle.std.specs.Prelude.{length}
use Rattle.std.specs.List.{flat_map, range_with_len}
use Rattle.mn_topo.specs.Network.{wiring_of}
use Rattle.mn_flood_laws.specs.Flood.{flooded}
use Rattle.mn_tables.specs.Telling.{standing, Told}
use Rattle.mn_flood_run.specs.Report.{tree_text}
use Rattle.mn_flood_run.proofs.report.put_trees.Given as goal

abbrev pub invariant-loop-node : goal.invariant-loop-node
invariant-loop-node g l =
    Told (flat_map (λ node. tree_text l.topology (flooded (wiring_of l.topology) l.flood.world node) node)
    (take l.node (range_with_len 0 (length l.topology.loopbacks))))
    (standing l.fn.page (g.O.Sink.written l.fn.out) (g.O.Sink.faults l.fn.out)) (standing l.page (g.O.Sink.written l.out) (g.O.Sink.faults l.out))
