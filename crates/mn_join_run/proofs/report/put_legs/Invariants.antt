use Rattle.std.proofs.Common.{take}
use Rattle.std.specs.List.{flat_map}
use Rattle.mn_join_laws.specs.Pairing.{Pairing, Both}
use Rattle.mn_join.specs.Pairs.{PairStands}
use Rattle.mn_tables.specs.Telling.{standing, Told}
use Rattle.mn_join_run.specs.Reading.{AreOf}
use Rattle.mn_join_run.specs.Report.{leg_text}
use Rattle.mn_join_run.proofs.report.put_legs.Given as goal

abbrev pub invariant-loop-leg : goal.invariant-loop-leg
invariant-loop-leg g l = (pairing : Pairing) (both : Both) → PairStands pairing l.pair both → AreOf l.sites both →
    Told (flat_map (leg_text pairing both) (take l.leg-index l.legs))
    (standing l.fn.page (g.O.Sink.written l.fn.out) (g.O.Sink.faults l.fn.out)) (standing l.page (g.O.Sink.written l.out) (g.O.Sink.faults l.out))
