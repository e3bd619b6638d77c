use Rattle.std.proofs.Common.{◌≡◌, map, take}
use Rattle.mn_join_laws.specs.Pairing.{Pairing, Both}
use Rattle.mn_join.specs.Pairs.{PairStands}
use Rattle.mn_join_run.specs.Report.{end_of, totals_of}
use Rattle.mn_join_run.proofs.ends.totals_of.Given as goal

abbrev pub invariant-loop-packet : goal.invariant-loop-packet
invariant-loop-packet l =
    (pairing : Pairing) (both : Both) → PairStands pairing l.pair both → l.totals ≡ totals_of (map (end_of pairing both) (take l.packet both.travels))
