use Rattle.std.proofs.Common.{◌∙◌, arith, refl}
use Rattle.mn_transport_laws.proofs.Putting.{told-next, below-next}
use Rattle.mn_transport.proofs.flying.tell_all.Goals as goal

pub loop-node-preserved : goal.loop-node-preserved
loop-node-preserved c = record {
  told = told-next c.loop-node.notices.items _ _ _ _ c.loop-node.number _ c.loop-node.node _ c.loop-node-test.true refl
      c.in_ok-tell.ensures.told c.loop-node.invariant.told;
  count = let was = c.loop-node.invariant.count in omega (arith, was);
  below = below-next c.loop-node.number _ c.loop-node.notices.items _ _ refl c.in_ok-tell.ensures.told refl c.loop-node.invariant.below;
  channels = c.tell.ensures.channels ∙ c.loop-node.invariant.channels;
  flight = c.tell.ensures.flight;
}
