use Rattle.std.proofs.Common.{◌≡◌, length, map, take}
use Rattle.std.specs.List.{flat_map, range_with_len}
use Rattle.mn_join_laws.specs.Pairing.{Pairing}
use Rattle.mn_join.specs.Pairs.{PairStands}
use Rattle.mn_report.specs.Shown.{sending_of}
use Rattle.mn_tables.specs.Telling.{standing, Told}
use Rattle.mn_join_run.specs.Course.{JoinRun}
use Rattle.mn_join_run.specs.Reading.{AreOf}
use Rattle.mn_join_run.specs.Report.{packet_row}
use Rattle.mn_join_run.proofs.report.put_packets.Given as goal

abbrev pub invariant-loop-packet : goal.invariant-loop-packet
invariant-loop-packet g l = (pairing : Pairing) (run : JoinRun) → PairStands pairing l.pair run.both → AreOf l.sites run.both →
    map sending_of l.sent ≡ run.sendings →
    Told (flat_map (packet_row pairing run) (take l.packet (range_with_len 0 (length run.both.travels))))
    (standing l.fn.page (g.O.Sink.written l.fn.out) (g.O.Sink.faults l.fn.out)) (standing l.page (g.O.Sink.written l.out) (g.O.Sink.faults l.out))
