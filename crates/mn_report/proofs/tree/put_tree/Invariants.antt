use Rattle.std.proofs.Common.{take}
use Rattle.std.specs.Prelude.{length}
use Rattle.std.specs.List.{flat_map, range_with_len}
use Rattle.mn_ledger.specs.Ledger.{world_of}
use Rattle.mn_report.specs.Rows.{walk_row}
use Rattle.mn_tables.specs.Telling.{standing, Told}
use Rattle.mn_report.proofs.tree.put_tree.Given as goal

abbrev pub invariant-loop-to : goal.invariant-loop-to
invariant-loop-to g l =
    Told (flat_map (walk_row l.net.topology (world_of l.net.topology l.net.journal) l.fn.node.0)
    (take l.to (range_with_len 0 (length l.net.topology.loopbacks))))
    (standing l.fn.page (g.O.Sink.written l.fn.out) (g.O.Sink.faults l.fn.out)) (standing l.page (g.O.Sink.written l.out) (g.O.Sink.faults l.out))
