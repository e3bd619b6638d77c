use Rattle.mn_edge.specs.Files.{Absent}
use Rattle.std.proofs.Common.{◌≡◌, None, Err, sym, subst}
use Rattle.mn_edge.specs.Kept.{Framed}
use Rattle.mn_edge.specs.KeptLaws.{framed_same}
use Rattle.mn_script.specs.declared.command.Command.TheVariants.{Show}
use Rattle.mn_course_laws.specs.Course.{inputs_of}
use Rattle.mn_course_laws.specs.Expansion.{with_line}
use Rattle.mn_perform.specs.Running.{Breaks}
use Rattle.mn_perform.specs.declared.ended.Fault.TheVariants.{Read, Write, NoMemory}
use Rattle.mn_perform.proofs.Played.{table_cut, line_noted, line_cut, line_stopped, line_broken, not_shown}
use Rattle.mn_perform.specs.Recorded.{told_packets}
use Rattle.mn_perform.proofs.Blaming.{absent_untold, blamed_by}
use Rattle.mn_perform.proofs.Results.{err_is}
use Rattle.mn_perform.proofs.lines.perform_line.Goals as goal

pub returns-in_err-put_shown-in-Show-clause-framed : goal.returns-in_err-put_shown-in-Show-clause-framed
returns-in_err-put_shown-in-Show-clause-framed g c =
    subst (Framed c.args.run.now.books.names (g.S.Shelf.files c.args.shelf.now)) (sym c.put_shown.ensures.same)
    (framed_same c.args.run.now.books.names (g.S.Shelf.files c.args.shelf.now))

pub returns-in_ok-put_shown-in-Show-clause-framed : goal.returns-in_ok-put_shown-in-Show-clause-framed
returns-in_ok-put_shown-in-Show-clause-framed g c =
    subst (Framed c.args.run.now.books.names (g.S.Shelf.files c.args.shelf.now)) (sym c.put_shown.ensures.same)
    (framed_same c.args.run.now.books.names (g.S.Shelf.files c.args.shelf.now))

pub returns-in_err-put_shown-in-Show-clause-went : goal.returns-in_err-put_shown-in-Show-clause-went
returns-in_err-put_shown-in-Show-clause-went g c = λ all told begun run running keeps.
    rw (err_is c.from_residual.result c.in_err-put_shown-in-Show.field-0.0 c.from_residual.ensures.1)
    (subst (λ k. Breaks c.args.run.now.net.topology all begun
    (with_line c.args.run.now.net.topology all run (record { number = c.args.line.now.number; command = k })) c.args.run.now.books.names
    (g.S.Shelf.files c.put_shown.new.shelf) (g.O.Sink.written c.put_shown.new.out)) (sym c.in-Show.is)
    (subst (λ f. Breaks c.args.run.now.net.topology all begun
    (with_line c.args.run.now.net.topology all run (record { number = c.args.line.now.number; command = Show c.in-Show.table })) c.args.run.now.books.names
    f (g.O.Sink.written c.put_shown.new.out)) (sym c.put_shown.ensures.same)
    (table_cut _ _ _ _ c.args.line.now.number c.in-Show.table _ _ _ c.args.run.now.desk _ _ _ running keeps c.in_err-put_shown-in-Show.field-0.0
    (c.in_err-put_shown-in-Show.ensures.part c.args.run.now.books.names all (inputs_of all c.args.run.now.net.journal) told keeps.stands))))

pub returns-in_err-put_shown-in-Show-clause-cause : goal.returns-in_err-put_shown-in-Show-clause-cause
returns-in_err-put_shown-in-Show-clause-cause g c =
    let untold : Type 0 = told_packets (g.S.Shelf.files c.args.shelf.now) c.args.run.now.books.names c.args.capture.now ≡ None in
    rw (err_is c.from_residual.result c.in_err-put_shown-in-Show.field-0.0 c.from_residual.ensures.1)
    (blamed_by {T = Unit {0}} (Absent (g.S.Shelf.files c.args.shelf.now) c.args.capture.now.name) ⊥ untold untold
    (g.S.Shelf.read_faults c.args.shelf.now, g.S.Shelf.write_faults c.args.shelf.now, g.O.Sink.faults c.args.out.now)
    (g.S.Shelf.read_faults c.put_shown.new.shelf, g.S.Shelf.write_faults c.put_shown.new.shelf, g.O.Sink.faults c.put_shown.new.out)
    (Err c.in_err-put_shown-in-Show.field-0.0)
    (absent_untold (g.S.Shelf.files c.args.shelf.now) c.args.run.now.books.names c.args.capture.now) (λ never. absurd never)
    c.in_err-put_shown-in-Show.ensures.cause)

pub record_line-requires-clause-together : goal.record_line-requires-clause-together
record_line-requires-clause-together g c = λ all told. let s = c.requires.stands all told in (s.stands, s.holds)

pub returns-in_ok-note-in-Ok-clause-went : goal.returns-in_ok-note-in-Ok-clause-went
returns-in_ok-note-in-Ok-clause-went g c = λ all told begun run running keeps.
    line_noted _ _ _ _ c.args.line.now _ c.record_line.new.net _ c.record_line.new.books _ c.note.new.self _ _ _ _ running keeps
    c.in-Ok.played (not_shown c.args.line.now.command c.in_default.not-Show)
    (c.in-Ok.ensures.course all told) c.record_line.ensures.topology (c.in-Ok.ensures.after all told)
    (rw c.record_line.ensures.topology at (rw c.topology.ensures at c.in_ok-note-in-Ok.ensures.noted))

pub returns-in_err-note-in-Ok-clause-went : goal.returns-in_err-note-in-Ok-clause-went
returns-in_err-note-in-Ok-clause-went g c = λ all told begun run running keeps.
    rw (err_is c.from_residual-in_err-note-in-Ok.result c.in_err-note-in-Ok.field-0.0 c.from_residual-in_err-note-in-Ok.ensures.1)
    (line_cut _ _ _ _ c.args.line.now _ c.record_line.new.net _ c.record_line.new.books _ c.args.run.now.desk _ _ _ _ running keeps
    c.in_err-note-in-Ok.field-0.0 c.in-Ok.played
    (not_shown c.args.line.now.command c.in_default.not-Show)
    (c.in-Ok.ensures.course all told) c.record_line.ensures.topology (c.in-Ok.ensures.after all told)
    (rw c.record_line.ensures.topology at (rw c.topology.ensures at c.in_err-note-in-Ok.ensures.part)))

pub returns-in-Err-TooManySteps-clause-went : goal.returns-in-Err-TooManySteps-clause-went
returns-in-Err-TooManySteps-clause-went g c = λ all told begun run running keeps.
    line_stopped _ _ _ _ c.args.line.now _ c.record_line.new.net _ c.record_line.new.books _ c.args.run.now.desk _ _ _
    (g.O.Sink.written c.args.out.now) running keeps (rw c.in-Err-TooManySteps.field-0-is at (c.in-Err-TooManySteps.ensures.course all told))
    c.record_line.ensures.topology (rw c.in-Err-TooManySteps.field-0-is at (c.in-Err-TooManySteps.ensures.after all told))

pub returns-in-Err-Read-clause-went : goal.returns-in-Err-Read-clause-went
returns-in-Err-Read-clause-went g c = λ all told begun run running keeps.
    line_broken _ _ _ _ c.args.line.now _ c.record_line.new.net _ c.record_line.new.books _ c.args.run.now.desk _ _ _
    (g.O.Sink.written c.args.out.now) running keeps Read (rw c.in-Err-Read.field-0-is at (c.in-Err-Read.ensures.course all told))
    c.record_line.ensures.topology (rw c.in-Err-Read.field-0-is at (c.in-Err-Read.ensures.after all told))

pub returns-in-Err-Write-clause-went : goal.returns-in-Err-Write-clause-went
returns-in-Err-Write-clause-went g c = λ all told begun run running keeps.
    line_broken _ _ _ _ c.args.line.now _ c.record_line.new.net _ c.record_line.new.books _ c.args.run.now.desk _ _ _
    (g.O.Sink.written c.args.out.now) running keeps Write (rw c.in-Err-Write.field-0-is at (c.in-Err-Write.ensures.course all told))
    c.record_line.ensures.topology (rw c.in-Err-Write.field-0-is at (c.in-Err-Write.ensures.after all told))

pub returns-in-Err-NoMemory-clause-went : goal.returns-in-Err-NoMemory-clause-went
returns-in-Err-NoMemory-clause-went g c = λ all told begun run running keeps.
    line_broken _ _ _ _ c.args.line.now _ c.record_line.new.net _ c.record_line.new.books _ c.args.run.now.desk _ _ _
    (g.O.Sink.written c.args.out.now) running keeps NoMemory (rw c.in-Err-NoMemory.field-0-is at (c.in-Err-NoMemory.ensures.course all told))
    c.record_line.ensures.topology (rw c.in-Err-NoMemory.field-0-is at (c.in-Err-NoMemory.ensures.after all told))
