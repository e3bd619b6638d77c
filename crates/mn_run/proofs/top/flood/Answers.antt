use Rattle.std.proofs.Common.{refl, sym}
use Rattle.mn_edge.specs.Written.{texts}
use Rattle.mn_answer.proofs.Ending.{caused_after}
use Rattle.mn_run.proofs.Doing.{flood_ends}
use Rattle.mn_run.proofs.top.flood.Goals as goal

pub returns-clause-ends : goal.returns-clause-ends
returns-clause-ends g c =
    flood_ends (texts c.args.words.now) _ _ _ _ c.flood.result
    (λ m is. rw (sym c.word.ensures, sym c.word-2.ensures) (c.flood.ensures.answers m is))
    (λ m is text begun. rw (sym c.word.ensures, sym c.word-2.ensures) (c.flood.ensures.told m is text begun)) c.flood.ensures.same

pub returns-clause-cause : goal.returns-clause-cause
returns-clause-cause g c =
    caused_after _ _ _ _ _ c.flood.result refl refl refl (λ none m is. rw (sym c.word.ensures, sym c.word-2.ensures) (none m is)) c.flood.ensures.cause
