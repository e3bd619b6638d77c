use Rattle.std.proofs.Common.{◌∙◌, rules}
use Rattle.mn_labels.proofs.GivingUp.{none_gave_up, one_more_gave_up}
use Rattle.mn_labels.proofs.table.Labels.give_up.Goals as goal

pub loop-fec-init : goal.loop-fec-init
loop-fec-init c = record { labels = none_gave_up _; me = search rules; spare = search rules }

pub loop-fec-preserved : goal.loop-fec-preserved
loop-fec-preserved c = record {
  labels = one_more_gave_up c.args.self.now.labels c.loop-fec.self.labels c.forget.new.self.labels c.args.free.now c.loop-fec.fec-index _ c.loop-fec-test.true
      c.loop-fec.invariant.labels c.forget.ensures.given c.forget.ensures.fecs;
  me = c.forget.ensures.me ∙ c.loop-fec.invariant.me;
  spare = c.forget.ensures.spare ∙ c.loop-fec.invariant.spare;
}
