use Rattle.std.proofs.Common.{arith, ◌<◌, ◌∙◌, subst, sym}
use Rattle.mn_transit.proofs.Numbers.{Below, below_left}
use Rattle.mn_flight_tests.proofs.transit.Run.loses.Goals as goal

pub invariant_of-self : goal.invariant_of-self
invariant_of-self g c = record {
  channels = c.lose.ensures.counts.channels ∙ c.args.self.now.channels;
  numbers = subst (Below c.args.self.now.number) (sym c.lose.ensures.left) (below_left _ _ _ c.args.self.now.numbers);
  copies = omega (arith, c.lose.ensures.counts.copies, c.args.self.now.copies);
  verdicts = omega (arith, c.lose.ensures.counts.verdicts, c.args.self.now.verdicts);
}
