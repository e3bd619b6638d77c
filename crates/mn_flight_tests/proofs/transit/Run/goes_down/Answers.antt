use Rattle.std.proofs.Common.{arith, ◌<◌, ◌∙◌, subst, sym}
use Rattle.mn_transit.proofs.Numbers.{Below, below_off}
use Rattle.mn_flight_tests.proofs.transit.Run.goes_down.Goals as goal

pub invariant_of-self : goal.invariant_of-self
invariant_of-self g c = record {
  channels = c.link_down.ensures.counts.channels ∙ c.args.self.now.channels;
  numbers = subst (Below c.args.self.now.number) (sym c.link_down.ensures.left) (below_off _ _ _ (below_off _ _ _ c.args.self.now.numbers));
  copies = omega (arith, c.link_down.ensures.counts.copies, c.args.self.now.copies);
  verdicts = omega (arith, c.link_down.ensures.counts.verdicts, c.args.self.now.verdicts);
}
