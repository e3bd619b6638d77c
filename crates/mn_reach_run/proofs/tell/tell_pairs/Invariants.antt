use Rattle.std.proofs.Common.{[], take}
use Rattle.std.specs.List.{flat_map}
use Rattle.mn_tables.specs.Telling.{standing, Told}
use Rattle.mn_candidates.specs.Pairs.{pairs_of}
use Rattle.mn_reach_run.specs.declared.settings.Settings.{Settings}
use Rattle.mn_reach_run.specs.Playing.{IsKnown}
use Rattle.mn_reach_run.specs.Telling.{pair_told}
use Rattle.mn_reach_run.proofs.tell.tell_pairs.Given as goal

abbrev pub invariant-loop-pair : goal.invariant-loop-pair
invariant-loop-pair g l =
    (settings : Settings) → IsKnown l.topology settings [] l.found → Told (flat_map (pair_told l.topology settings) (take l.pair (pairs_of l.topology)))
    (standing l.fn.desk.page (g.O.Sink.written l.fn.out) (g.O.Sink.faults l.fn.out)) (standing l.desk.page (g.O.Sink.written l.out) (g.O.Sink.faults l.out))
