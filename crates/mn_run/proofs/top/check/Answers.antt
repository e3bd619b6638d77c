use Rattle.std.proofs.Common.{Some, Ok, Err, ap, refl, sym, ◌∙◌, subst}
use Rattle.mn_edge.specs.Files.{file}
use Rattle.mn_edge.specs.Written.{texts}
use Rattle.mn_answer.specs.Answer.{with_topology}
use Rattle.mn_answer.specs.Inputs.{TopologyIs}
use Rattle.mn_answer.proofs.Ending.{sink_caused, caused_read}
use Rattle.mn_run.specs.declared.words.Job.TheVariants.{Check}
use Rattle.mn_run.specs.Answer.{checked}
use Rattle.mn_run.proofs.Doing.{check_makes_none, check_ends, refusal_ends, fault_ends, memory_ends}
use Rattle.mn_run.proofs.top.check.Goals as goal

pub returns-in-Ok-Ok-clause-ends : goal.returns-in-Ok-Ok-clause-ends
returns-in-Ok-Ok-clause-ends g c =
    check_ends (texts c.args.words.now) c.in-Ok-Ok.topology _ _ _ _ _ _ c.tell.result
    (λ m is. subst (λ n. TopologyIs (file m n) (Ok c.in-Ok-Ok.topology)) c.word.ensures
    (subst (TopologyIs (file m c.word.result.now)) c.in-Ok-Ok.field-0-is (c.in-Ok-Ok.ensures.answer m is)))
    c.load_topology.ensures.same c.tell.ensures.outcome c.tell.ensures.text c.tell.ensures.cause

pub returns-in-Ok-Err-clause-ends : goal.returns-in-Ok-Err-clause-ends
returns-in-Ok-Err-clause-ends g c =
    refusal_ends Check (texts c.args.words.now) c.in-Ok-Err.outcome _ _ _ _ _ _ c.refuse.result check_makes_none
    (λ m is. subst (λ n. TopologyIs (file m n) (Err c.in-Ok-Err.outcome)) c.word.ensures
    (subst (TopologyIs (file m c.word.result.now)) c.in-Ok-Err.field-0-is (c.in-Ok-Err.ensures.answer m is)) (λ t. Some (checked t)))
    c.load_topology.ensures.same c.refuse.ensures.outcome c.refuse.ensures.text c.refuse.ensures.cause c.refuse.ensures.undone

pub returns-in-Err-Failed-clause-ends : goal.returns-in-Err-Failed-clause-ends
returns-in-Err-Failed-clause-ends g c = fault_ends Check (texts c.args.words.now) _ _ _ c.load_topology.ensures.same

pub returns-in-Err-NoMemory-clause-ends : goal.returns-in-Err-NoMemory-clause-ends
returns-in-Err-NoMemory-clause-ends g c = memory_ends Check (texts c.args.words.now) _ _ _ c.load_topology.ensures.same

pub returns-in-Ok-Ok-clause-cause : goal.returns-in-Ok-Ok-clause-cause
returns-in-Ok-Ok-clause-cause g c = sink_caused _ _ _ c.tell.result c.in-Ok-Ok.ensures.reads c.load_topology.ensures.writes c.tell.ensures.cause

pub returns-in-Ok-Err-clause-cause : goal.returns-in-Ok-Err-clause-cause
returns-in-Ok-Err-clause-cause g c = sink_caused _ _ _ c.refuse.result c.in-Ok-Err.ensures.reads c.load_topology.ensures.writes c.refuse.ensures.cause

pub returns-in-Err-Failed-clause-cause : goal.returns-in-Err-Failed-clause-cause
returns-in-Err-Failed-clause-cause g c =
    caused_read _ _ _ _ c.load_topology.ensures.writes refl
    (λ absent m is. ap (λ input. with_topology input (λ t. Some (checked t))) (ap (file m) (sym c.word.ensures)
    ∙ absent m is)) (rw c.in-Err-Failed.field-0-is at c.in-Err-Failed.ensures.reads)
