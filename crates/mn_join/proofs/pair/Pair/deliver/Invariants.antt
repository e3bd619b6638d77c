use Rattle.std.proofs.Common.{◌≡◌, ◌≤◌, None, length}
use Rattle.mn_join_laws.specs.Pairing.{Pairing, Both}
use Rattle.mn_join.specs.Pairs.{PairStands}
use Rattle.mn_join.specs.Moves.{PairGoesOn}
use Rattle.mn_join.proofs.Coursing.{ComesOn}
use Rattle.mn_join.proofs.pair.Pair.deliver.Given as goal

abbrev pub invariant-loop-turn : goal.invariant-loop-turn
invariant-loop-turn l = record {
  comes : (pairing : Pairing) (both : Both) → PairStands pairing l.fn.self both → ComesOn pairing l.which l.arrivals both l.most l._turn l.self;
  goes : PairGoesOn l.fn.self l.self;
  exits : length l.self.exits ≤ l._turn;
  stopped : l.self.stopped ≡ None;
}
