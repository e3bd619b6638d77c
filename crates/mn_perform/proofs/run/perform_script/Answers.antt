use Rattle.std.proofs.Common.{◌≡◌, None}
use Rattle.mn_course_laws.specs.Expansion.{expanded}
use Rattle.mn_edge.specs.KeptLaws.{framed_both}
use Rattle.mn_perform.proofs.Ending.{run_files, run_text, run_late, broken_files, broken_begun, broken_untold, no_read, untold_unread, notes_begin}
use Rattle.mn_perform.specs.Recorded.{told_packets}
use Rattle.mn_edge.specs.KeptLaws.{holds_there}
use Rattle.mn_perform.proofs.Blaming.{blamed_by, blamed_after, lacking_then}
use Rattle.mn_perform.proofs.Results.{err_is}
use Rattle.mn_perform.proofs.run.perform_script.Goals as goal

pub returns-clause-files : goal.returns-clause-files
returns-clause-files g c = λ all told base framed.
    run_files _ _ _ c.args.lines.now _ _ _ _ _ _ (c.in_ok-how.ensures.went all told) c.args.run.now.books.names base _ _ c.perform_lines.ensures.names
    (framed_both _ _ _ _ framed c.perform_lines.ensures.framed) c.finish.ensures.whole c.finish.ensures.part

pub returns-clause-text : goal.returns-clause-text
returns-clause-text g c = λ all told before is.
    run_text _ _ _ c.args.lines.now _ _ _ _ _ _ (c.in_ok-how.ensures.went all told) before _ _ is c.finish.ensures.put c.finish.ensures.put_part

pub returns-clause-late : goal.returns-clause-late
returns-clause-late g c = λ all told base framed before is.
    run_late _ _ _ c.args.lines.now _ _ _ _ _ _ (c.in_ok-how.ensures.went all told) c.args.run.now.books.names base before _ _ _ c.perform_lines.ensures.names
    (framed_both _ _ _ _ framed c.perform_lines.ensures.framed) is c.finish.ensures.whole c.finish.ensures.late

pub returns-in_err-how-clause-files : goal.returns-in_err-how-clause-files
returns-in_err-how-clause-files g c = λ all told base framed.
    rw (err_is c.from_residual.result c.in_err-how.field-0.0 c.from_residual.ensures.1)
    (broken_files _ _ _ c.args.lines.now _ c.args.run.now.books.names base _ _ c.perform_lines.ensures.names (c.in_err-how.ensures.went all told)
    (framed_both _ _ _ _ framed c.perform_lines.ensures.framed))

pub returns-in_err-how-clause-text : goal.returns-in_err-how-clause-text
returns-in_err-how-clause-text g c =
    λ all told before is.
    rw (err_is c.from_residual.result c.in_err-how.field-0.0 c.from_residual.ensures.1)
    (notes_begin c.args.run.now.net.topology all (expanded c.args.run.now.net.topology all c.args.lines.now) before _
    ((c.in_err-how.ensures.went all told).text before is))

pub returns-clause-begun : goal.returns-clause-begun
returns-clause-begun g c = λ all told base framed. no_read _ base _ c.finish.result c.finish.ensures.unread

pub returns-in_err-how-clause-begun : goal.returns-in_err-how-clause-begun
returns-in_err-how-clause-begun g c = λ all told base framed.
    rw (err_is c.from_residual.result c.in_err-how.field-0.0 c.from_residual.ensures.1)
    (broken_begun _ _ _ c.args.lines.now _ c.args.run.now.books.names base _ _ c.in_err-how.field-0.0 c.perform_lines.ensures.names
    (c.in_err-how.ensures.went all told)
    (framed_both _ _ _ _ framed c.perform_lines.ensures.framed))

pub returns-clause-untold : goal.returns-clause-untold
returns-clause-untold g c = λ all told before is. untold_unread _ before _ c.finish.result c.finish.ensures.unread

pub returns-in_err-how-clause-untold : goal.returns-in_err-how-clause-untold
returns-in_err-how-clause-untold g c = λ all told before is.
    rw (err_is c.from_residual.result c.in_err-how.field-0.0 c.from_residual.ensures.1)
    (broken_untold _ before _ c.in_err-how.field-0.0 ((c.in_err-how.ensures.went all told).text before is))

pub returns-clause-cause : goal.returns-clause-cause
returns-clause-cause g c =
    let untold : Type 0 = told_packets (g.S.Shelf.files c.args.shelf.now) c.args.run.now.books.names c.args.capture.now ≡ None in
    blamed_after untold untold _ _ _ c.finish.result c.in_ok-how.ensures.cause.0 c.in_ok-how.ensures.cause.1 c.in_ok-how.ensures.cause.2
    (blamed_by _ _ untold untold _ _ c.finish.result (λ never. absurd never)
    (lacking_then (told_packets (g.S.Shelf.files c.args.shelf.now) c.args.run.now.books.names c.args.capture.now) c.perform_lines.new.run.books.names
    (g.S.Shelf.files c.perform_lines.new.shelf) (λ all told. let w = c.in_ok-how.ensures.went all told in holds_there _ _ _ _ w.0.holds))
    c.finish.ensures.cause)
