use Rattle.mn_lines.proofs.Putting.{part_of, part_of_more}
use Rattle.mn_edge.specs.Laid.{whole_part}
use Rattle.mn_perform.proofs.Ending.{sink_reads_none, write_reads_none}
use Rattle.mn_course_laws.specs.Course.{inputs_of}
use Rattle.mn_perform.proofs.Results.{err, err_is}
use Rattle.std.proofs.lemmas.Result.{err_from_is_err_and}
use Rattle.std.proofs.Common.{sym, ◌∙◌}
use Rattle.mn_perform.proofs.run.finish.Goals as goal

pub returns-in_err-close-clause-put_part : goal.returns-in_err-close-clause-put_part
returns-in_err-close-clause-put_part g c =
    err c.from_residual.result _ (λ all before notes stands on. part_of_more before notes _ _ (part_of before notes _ _ on))

pub returns-in_err-end-clause-part : goal.returns-in_err-end-clause-part
returns-in_err-end-clause-part g c =
    err c.from_residual-in_err-end.result _
    (λ base all framed stands. whole_part _ base _ (c.in_ok-close.ensures.whole base all framed stands.stands stands.holds))

pub returns-in_err-end-clause-put_part : goal.returns-in_err-end-clause-put_part
returns-in_err-end-clause-put_part g c =
    err c.from_residual-in_err-end.result _
    (λ all before notes stands on. c.in_err-end.ensures.part (inputs_of all c.args.run.now.net.journal) before notes stands.stands on)

pub returns-in_err-close-clause-unread : goal.returns-in_err-close-clause-unread
returns-in_err-close-clause-unread g c = λ e.
    let p = err_from_is_err_and c.from_residual.result c.from_residual.ensures.1 in write_reads_none _ p.0 p.2 (sym p.1 ∙ e)

pub returns-in_err-end-clause-unread : goal.returns-in_err-end-clause-unread
returns-in_err-end-clause-unread g c = λ e.
    sink_reads_none _ _ c.in_err-end.field-0.0 c.in_err-end.ensures.cause
    (sym (err_is c.from_residual-in_err-end.result c.in_err-end.field-0.0 c.from_residual-in_err-end.ensures.1) ∙ e)
