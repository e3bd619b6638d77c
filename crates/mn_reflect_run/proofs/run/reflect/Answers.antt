use Rattle.std.proofs.Common.{◌∙◌, ap, refl, subst}
use Rattle.mn_edge.specs.Files.{file}
use Rattle.mn_answer.specs.Inputs.{TopologyIs}
use Rattle.mn_answer.specs.Answer.{with_topology}
use Rattle.mn_answer.proofs.Ending.{fault_answers, memory_answers, caused_after, sink_caused, caused_read}
use Rattle.mn_reflect_run.specs.Answer.{reflect_answer, reflect_over}
use Rattle.mn_reflect_run.proofs.Endings.{reflect_told}
use Rattle.mn_reflect_run.proofs.run.reflect.Goals as goal

pub returns-in-Ok-Ok-clause-told : goal.returns-in-Ok-Ok-clause-told
returns-in-Ok-Ok-clause-told g c = λ files is before begun.
    reflect_told c.in-Ok-Ok.topology c.args.topology.now c.args.script.now files before _ c.reflect_script.result
    (subst (TopologyIs (file files c.args.topology.now)) c.in-Ok-Ok.field-0-is (c.in-Ok-Ok.ensures.answer files is)).0
    (c.reflect_script.ensures.told files (c.load_topology.ensures.same ∙ is) before begun)

pub returns-in-Err-Failed-clause-answers : goal.returns-in-Err-Failed-clause-answers
returns-in-Err-Failed-clause-answers g c = λ files is.
    fault_answers (reflect_answer c.args.topology.now c.args.script.now files) files _ _ (c.load_topology.ensures.same ∙ is)

pub returns-in-Err-NoMemory-clause-answers : goal.returns-in-Err-NoMemory-clause-answers
returns-in-Err-NoMemory-clause-answers g c = λ files is.
    memory_answers (reflect_answer c.args.topology.now c.args.script.now files) files _ _ (c.load_topology.ensures.same ∙ is)

pub returns-in-Ok-Ok-clause-cause : goal.returns-in-Ok-Ok-clause-cause
returns-in-Ok-Ok-clause-cause g c =
    caused_after _ _ _ _ _ c.reflect_script.result c.in-Ok-Ok.ensures.reads c.load_topology.ensures.writes refl
    (λ none files is. (subst (TopologyIs (file files c.args.topology.now)) c.in-Ok-Ok.field-0-is (c.in-Ok-Ok.ensures.answer files is)).1
    (reflect_over files c.args.script.now) ∙ none files (c.load_topology.ensures.same ∙ is))
    c.reflect_script.ensures.cause

pub returns-in-Ok-Err-clause-cause : goal.returns-in-Ok-Err-clause-cause
returns-in-Ok-Err-clause-cause g c = sink_caused _ _ _ c.refuse.result c.in-Ok-Err.ensures.reads c.load_topology.ensures.writes c.refuse.ensures.cause

pub returns-in-Err-Failed-clause-cause : goal.returns-in-Err-Failed-clause-cause
returns-in-Err-Failed-clause-cause g c =
    caused_read _ _ _ _ c.load_topology.ensures.writes refl
    (λ absent files is. ap (λ input. with_topology input (reflect_over files c.args.script.now)) (absent files is))
    (rw c.in-Err-Failed.field-0-is at c.in-Err-Failed.ensures.reads)
