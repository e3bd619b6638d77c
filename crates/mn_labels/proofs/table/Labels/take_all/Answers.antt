use Rattle.std.proofs.Common.{◌∙◌, arith}
use Rattle.mn_labels.proofs.GivingUp.{one_more_took, there_still, other_still}
use Rattle.mn_labels.proofs.table.Labels.take_all.Goals as goal

pub take-requires-clause-node : goal.take-requires-clause-node
take-requires-clause-node c = there_still c.args.fecs.now c.loop-fec.fec-index _ _ _ _ c.loop-fec-test.true c.requires.others c.loop-fec.invariant.nodes

pub take-requires-clause-other : goal.take-requires-clause-other
take-requires-clause-other c = other_still c.args.fecs.now c.loop-fec.fec-index _ _ _ _ c.loop-fec-test.true c.requires.others c.loop-fec.invariant.me

pub loop-fec-preserved : goal.loop-fec-preserved
loop-fec-preserved c = record {
  rest = one_more_took c.loop-fec.self.labels c.take.new.self.labels _ c.args.fecs.now c.loop-fec.fec-index _ c.loop-fec-test.true
      c.loop-fec.invariant.rest c.take.ensures.after;
  nodes = c.take.ensures.nodes ∙ c.loop-fec.invariant.nodes;
  me = c.take.ensures.me ∙ c.loop-fec.invariant.me;
  spare = omega (arith, c.take.ensures.spare, c.loop-fec.invariant.spare);
}
