use Rattle.std.proofs.Common.{refl, sym}
use Rattle.mn_edge.specs.Written.{texts}
use Rattle.mn_answer.proofs.Ending.{caused_after}
use Rattle.mn_run.proofs.Doing.{reach_ends}
use Rattle.mn_run.proofs.top.reach.Goals as goal

pub returns-clause-ends : goal.returns-clause-ends
returns-clause-ends g c =
    reach_ends (texts c.args.words.now) _ _ _ _ c.reach.result
    (λ m is. rw (sym c.word.ensures, sym c.failures_name.ensures) (c.reach.ensures.answers m is))
    (λ m is text begun. rw (sym c.word.ensures, sym c.failures_name.ensures) (c.reach.ensures.told m is text begun)) c.reach.ensures.same

pub returns-clause-cause : goal.returns-clause-cause
returns-clause-cause g c =
    caused_after _ _ _ _ _ c.reach.result refl refl refl (λ none m is. rw (sym c.word.ensures, sym c.failures_name.ensures) (none m is)) c.reach.ensures.cause
