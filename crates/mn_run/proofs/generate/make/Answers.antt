use Rattle.std.proofs.Common.{Some, ◌∙◌, subst}
use Rattle.mn_answer.specs.Inputs.{TopologyIs}
use Rattle.mn_answer.proofs.Results.{if_ok}
use Rattle.mn_run.proofs.Generating.{made, topology_refused}
use Rattle.mn_run.proofs.generate.make.Goals as goal

pub returns-in-Ok-clause-answer : goal.returns-in-Ok-clause-answer
returns-in-Ok-clause-answer c = if_ok c.make_over.result _ _ (λ l h.
    made c.args.number c.in-Ok.topology l c.deref.result.now (c.deref.ensures.value ∙ c.in_ok-bytes.ensures)
    (subst (TopologyIs (Some c.deref.result.now)) c.in-Ok.is c.in_ok-topology.ensures.answer) h) c.make_over.ensures.answer

pub returns-clause-answer : goal.returns-clause-answer
returns-clause-answer c =
    topology_refused c.args.number c.in-Err.outcome c.deref.result.now (c.deref.ensures.value ∙ c.in_ok-bytes.ensures)
    (subst (TopologyIs (Some c.deref.result.now)) c.in-Err.is c.in_ok-topology.ensures.answer)
