use Rattle.mn_answer.proofs.Results.{on_err}
use Rattle.mn_answer.proofs.Ending.{part_one}
use Rattle.mn_answer.proofs.refusals.put_line.Goals as goal

pub returns-clause-part : goal.returns-clause-part
returns-clause-part g c = on_err c.put.result _ _ (λ h before is. part_one c.args.line.now before (h before is).0 _ (h before is).1) c.put.ensures.refused
