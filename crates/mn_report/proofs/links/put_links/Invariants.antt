use Rattle.std.proofs.Common.{take}
use Rattle.std.specs.Prelude.{length}
use Rattle.std.specs.List.{flat_map, range_with_len}
use Rattle.mn_ledger.specs.Ledger.{world_of}
use Rattle.mn_output_laws.specs.Tables.{link_line}
use Rattle.mn_tables.specs.Telling.{standing, Told}
use Rattle.mn_report.proofs.links.put_links.Given as goal

abbrev pub invariant-loop-link : goal.invariant-loop-link
invariant-loop-link g l =
    Told (flat_map (link_line l.net.topology (world_of l.net.topology l.net.journal)) (take l.link (range_with_len 0 (length l.net.topology.links))))
    (standing l.fn.page (g.O.Sink.written l.fn.out) (g.O.Sink.faults l.fn.out)) (standing l.page (g.O.Sink.written l.out) (g.O.Sink.faults l.out))
