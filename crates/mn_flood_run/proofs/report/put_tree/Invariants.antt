use Rattle.std.proofs.Common.{take}
use Rattle.std.specs.Prelude.{length}
use Rattle.std.specs.List.{flat_map, range_with_len}
use Rattle.mn_wiring.specs.Wiring.{View}
use Rattle.mn_linkdb.specs.Trees.{IsTree}
use Rattle.mn_topo.specs.Network.{wiring_of}
use Rattle.mn_tables.specs.Telling.{standing, Told}
use Rattle.mn_flood_run.specs.Playing.{walk_row}
use Rattle.mn_flood_run.proofs.report.put_tree.Given as goal

abbrev pub invariant-loop-to : goal.invariant-loop-to
invariant-loop-to g l =
    (view : View) → IsTree (wiring_of l.topology) view l.fn.node.0 l.tree →
    Told (flat_map (walk_row l.topology view l.fn.node.0) (take l.to (range_with_len 0 (length l.topology.loopbacks))))
    (standing l.fn.page (g.O.Sink.written l.fn.out) (g.O.Sink.faults l.fn.out)) (standing l.page (g.O.Sink.written l.out) (g.O.Sink.faults l.out))
