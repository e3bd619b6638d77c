use Rattle.mn_answer.proofs.Ending.{completes, soundly}
use Rattle.mn_edge.specs.Written.{texts}
use Rattle.mn_run.proofs.Forms.{number_job}
use Rattle.mn_run.proofs.top.command.Goals as goal

pub returns-clause-outcome : goal.returns-clause-outcome
returns-clause-outcome g c = λ m is. (c.answer.ensures.ends.answers m is).outcome_is

pub returns-clause-files : goal.returns-clause-files
returns-clause-files g c = λ m is. (c.answer.ensures.ends.answers m is).files_are

pub returns-clause-text : goal.returns-clause-text
returns-clause-text g c = λ m is. (c.answer.ensures.ends.answers m is).text_is

pub returns-clause-late : goal.returns-clause-late
returns-clause-late g c = λ m is. (c.answer.ensures.ends.answers m is).is_late

pub returns-clause-unread : goal.returns-clause-unread
returns-clause-unread g c = λ m is. (c.answer.ensures.ends.answers m is).is_unread

pub returns-clause-complete : goal.returns-clause-complete
returns-clause-complete g c = λ m is. completes _ _ _ _ c.answer.result (λ none. none m is) (c.answer.ensures.ends.answers m is).outcome_is
    c.answer.ensures.cause

pub returns-clause-sound : goal.returns-clause-sound
returns-clause-sound g c = λ m is. soundly _ _ _ _ c.answer.result (λ none. none m is) (c.answer.ensures.ends.answers m is).outcome_is c.answer.ensures.cause

pub returns-clause-headline : goal.returns-clause-headline
returns-clause-headline g c = c.answer.ensures.ends.kept

pub returns-clause-generated : goal.returns-clause-generated
returns-clause-generated g c = λ number words. c.answer.ensures.ends.told number (number_job (texts c.args.words.now) number words)
