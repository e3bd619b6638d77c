use Rattle.std.proofs.Common.{arith, ◌∙◌}
use Rattle.mn_transit.proofs.Numbers.{below_made, below_left}
use Rattle.mn_flight_tests.proofs.transit.Run.carries.Goals as goal

pub invariant_of-self : goal.invariant_of-self
invariant_of-self g c = record {
  channels = c.carry-flies.ensures.counts.channels ∙ c.args.self.now.channels;
  numbers =
      below_made c.args.self.now.topology c.args.tick c.args.self.now.number _ _ c.carry-flies.result c.carry-flies.ensures.made
      (below_left _ _ _ c.args.self.now.numbers);
  copies = omega (arith, c.carry-flies.ensures.counts.copies, c.args.self.now.copies);
  verdicts = omega (arith, c.carry-flies.ensures.counts.verdicts, c.args.self.now.verdicts);
}
