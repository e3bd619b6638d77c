use Rattle.std.proofs.Common.{◌≡◌}
use Rattle.mn_join_laws.specs.Pairing.{Pairing, Both}
use Rattle.mn_join.specs.Pairs.{PairStands}
use Rattle.mn_join.specs.Moves.{PairGoesOn}
use Rattle.mn_join.proofs.Coursing.{GoesOver}
use Rattle.mn_join.proofs.pair.Pair.hand_on.Given as goal

abbrev pub invariant-loop-entry : goal.invariant-loop-entry
invariant-loop-entry l = record {
  over : (pairing : Pairing) (both : Both) → PairStands pairing l.fn.self both → GoesOver pairing l.fn.which both l._entry l.which l.fn.self l.self;
  goes : PairGoesOn l.fn.self l.self;
  exits : l.self.exits ≡ l.fn.self.exits;
  stopped : l.self.stopped ≡ l.fn.self.stopped;
}
