use Rattle.std.proofs.Common.{refl, sym, ◌∙◌, ap}
use Rattle.mn_edge.specs.Written.{texts}
use Rattle.mn_join_run.specs.Inside.{is_inside}
use Rattle.mn_answer.proofs.Ending.{caused_after}
use Rattle.mn_run.specs.Words.{word}
use Rattle.mn_run.proofs.Doing.{join_ends}
use Rattle.mn_run.proofs.Forms.{joined_apart}
use Rattle.mn_run.proofs.top.join.Goals as goal

pub join-requires : goal.join-requires
join-requires g c =
    record {
      apart =
          ap (λ name. is_inside name c.word-6.result.now) c.word-5.ensures
          ∙ ap (is_inside (word (texts c.args.words.now) 5)) c.word-6.ensures
          ∙ joined_apart (texts c.args.words.now) c.requires;
    }

pub returns-clause-ends : goal.returns-clause-ends
returns-clause-ends g c =
    join_ends (texts c.args.words.now) _ _ _ _ c.join.result
    (λ m is. rw (sym c.word.ensures, sym c.word-2.ensures, sym c.word-3.ensures, sym c.word-4.ensures, sym c.word-5.ensures, sym c.word-6.ensures)
    (c.join.ensures.answers m is))
    (λ m is text begun. rw (sym c.word.ensures, sym c.word-2.ensures, sym c.word-3.ensures, sym c.word-4.ensures, sym c.word-5.ensures, sym c.word-6.ensures)
    (c.join.ensures.told m is text begun))

pub returns-clause-cause : goal.returns-clause-cause
returns-clause-cause g c =
    caused_after _ _ _ _ _ c.join.result refl refl refl (λ none m is. rw (
      sym c.word.ensures,
      sym c.word-2.ensures,
      sym c.word-3.ensures,
      sym c.word-4.ensures,
      sym c.word-5.ensures,
      sym c.word-6.ensures,
    ) (none m is)) c.join.ensures.cause
