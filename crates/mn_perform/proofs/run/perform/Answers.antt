use Rattle.std.proofs.Common.{inr, refl, sym, subst}
use Rattle.mn_edge.specs.Files.{Absent}
use Rattle.mn_edge.specs.Kept.{Framed}
use Rattle.mn_perform.proofs.Blaming.{blamed_by, blamed_after, untold_absent}
use Rattle.mn_script.specs.Script.{AllFit}
use Rattle.mn_course_laws.specs.Expansion.{expanded}
use Rattle.mn_capture.specs.Packets.{packets_in}
use Rattle.mn_perform.proofs.Whole.{told, put_nothing, unplayed_files, played_ends, played_files, played_text, played_late, played_begun}
use Rattle.mn_perform.proofs.Whole.{written_failed, written_untold, at_start, told_before}
use Rattle.mn_perform.specs.Whole.{running_files, BegunAtRead, UntoldAtRead, RunEnds, RunFiles, RunText, IsLate}
use Rattle.mn_perform.specs.Running.{notes_text}
use Rattle.mn_perform.specs.declared.ended.Fault.TheVariants.{NoMemory}
use Rattle.std.proofs.lemmas.Result.{err_from_is_err_and}
use Rattle.mn_perform.proofs.run.perform.Goals as goal

pub returns-in_err-books-clause-files : goal.returns-in_err-books-clause-files
returns-in_err-books-clause-files g c = λ m is bytes there.
    let p = err_from_is_err_and c.from_residual.result c.from_residual.ensures.1 in
    rw p.1
    (c.in_err-books.ensures.part m is (packets_in c.args.capture.now bytes)
    (expanded c.args.topology (packets_in c.args.capture.now bytes) c.args.lines.now).past.entries)

pub returns-in_err-books-clause-late : goal.returns-in_err-books-clause-late
returns-in_err-books-clause-late g c = λ m is bytes there before begun. inr (λ other found. put_nothing _ before _ begun)

pub returns-in_default-clause-files : goal.returns-in_default-clause-files
returns-in_default-clause-files g c = λ m is bytes there.
    unplayed_files c.args.folder.now c.args.topology c.args.lines.now c.args.capture.now m bytes c.in_ok-books.books.names _ there c.requires.apart
    c.in_ok-books.ensures.names
    (subst (λ o. Framed c.in_ok-books.books.names o (g.S.Shelf.files c.open.new.shelf)) is c.in_ok-books.ensures.framed) _ NoMemory
    (c.in_ok-books.ensures.held m is (packets_in c.args.capture.now bytes))

pub returns-in_default-clause-late : goal.returns-in_default-clause-late
returns-in_default-clause-late g c = λ m is bytes there before begun. inr (λ other found. put_nothing _ before _ begun)

pub returns-in_default-new-clause-files : goal.returns-in_default-new-clause-files
returns-in_default-new-clause-files g c = λ m is bytes there.
    unplayed_files c.args.folder.now c.args.topology c.args.lines.now c.args.capture.now m bytes c.in_ok-books.books.names _ there c.requires.apart
    c.in_ok-books.ensures.names
    (subst (λ o. Framed c.in_ok-books.books.names o (g.S.Shelf.files c.open.new.shelf)) is c.in_ok-books.ensures.framed) _ NoMemory
    (c.in_ok-books.ensures.held m is (packets_in c.args.capture.now bytes))

pub returns-in_default-new-clause-late : goal.returns-in_default-new-clause-late
returns-in_default-new-clause-late g c = λ m is bytes there before begun. inr (λ other found. put_nothing _ before _ begun)

pub perform_script-requires-clause-fit : goal.perform_script-requires-clause-fit
perform_script-requires-clause-fit g c = subst (λ t. AllFit t c.args.lines.now) (sym c.in-Ok-new.ensures.topology) c.requires.fit

pub perform_script-requires-clause-start : goal.perform_script-requires-clause-start
perform_script-requires-clause-start g c = λ all told.
    let before =
    told_before c.in_ok-books.books.names c.args.capture.now (g.S.Shelf.files c.args.shelf.now)
    (g.S.Shelf.files c.open.new.shelf) all c.in_ok-books.ensures.framed told in
    at_start c.args.topology all _ c.in-Ok-new.net c.in_ok-books.books c.in-Ok.desk _ c.in-Ok-new.ensures.topology c.in-Ok-new.ensures.journal
    c.in-Ok-new.ensures.tick
    c.in-Ok-new.ensures.stands (c.in_ok-books.ensures.held before.0 before.1 all) c.in-Ok.ensures.page c.in-Ok.ensures.sendings c.in-Ok.ensures.refused

pub returns-clause-ended : goal.returns-clause-ended
returns-clause-ended g c = λ m is bytes there.
    let framed = subst (λ o. Framed c.in_ok-books.books.names o (g.S.Shelf.files c.open.new.shelf)) is c.in_ok-books.ensures.framed in
    let told_so =
    told c.args.folder.now c.args.topology c.args.lines.now c.args.capture.now m bytes c.in_ok-books.books.names _ there c.requires.apart
    c.in_ok-books.ensures.names framed in
    played_ends c.args.folder.now c.args.topology c.args.lines.now c.args.capture.now m bytes c.in_ok-books.books.names _ there c.requires.apart
    c.in_ok-books.ensures.names framed c.perform_script.result
    (subst (λ t. RunEnds t (packets_in c.args.capture.now bytes) c.args.lines.now c.perform_script.result) c.in-Ok-new.ensures.topology
    (c.perform_script.ensures.ended _ told_so))

pub returns-clause-files : goal.returns-clause-files
returns-clause-files g c = λ m is bytes there.
    let framed = subst (λ o. Framed c.in_ok-books.books.names o (g.S.Shelf.files c.open.new.shelf)) is c.in_ok-books.ensures.framed in
    let told_so =
    told c.args.folder.now c.args.topology c.args.lines.now c.args.capture.now m bytes c.in_ok-books.books.names _ there c.requires.apart
    c.in_ok-books.ensures.names framed in
    played_files c.args.folder.now c.args.topology c.args.lines.now c.args.capture.now m bytes c.in_ok-books.books.names _ there c.requires.apart
    c.in_ok-books.ensures.names framed
    (g.S.Shelf.files c.perform_script.new.shelf) c.perform_script.result
    (subst (λ t. RunFiles t (packets_in c.args.capture.now bytes) c.args.lines.now c.in_ok-books.books.names m (g.S.Shelf.files c.perform_script.new.shelf)
    c.perform_script.result)
    c.in-Ok-new.ensures.topology
    (c.perform_script.ensures.files _ told_so m framed))

pub returns-clause-text : goal.returns-clause-text
returns-clause-text g c = λ m is bytes there before begun.
    let framed = subst (λ o. Framed c.in_ok-books.books.names o (g.S.Shelf.files c.open.new.shelf)) is c.in_ok-books.ensures.framed in
    let told_so =
    told c.args.folder.now c.args.topology c.args.lines.now c.args.capture.now m bytes c.in_ok-books.books.names _ there c.requires.apart
    c.in_ok-books.ensures.names framed in
    played_text c.args.folder.now c.args.topology c.args.lines.now c.args.capture.now m bytes c.in_ok-books.books.names _ there c.requires.apart
    c.in_ok-books.ensures.names framed before
    (g.O.Sink.written c.perform_script.new.out) c.perform_script.result
    (subst (λ t. RunText t (packets_in c.args.capture.now bytes) c.args.lines.now before (g.O.Sink.written c.perform_script.new.out) c.perform_script.result)
    c.in-Ok-new.ensures.topology
    (c.perform_script.ensures.text _ told_so before begun))

pub returns-clause-late : goal.returns-clause-late
returns-clause-late g c = λ m is bytes there before begun.
    let framed = subst (λ o. Framed c.in_ok-books.books.names o (g.S.Shelf.files c.open.new.shelf)) is c.in_ok-books.ensures.framed in
    let told_so =
    told c.args.folder.now c.args.topology c.args.lines.now c.args.capture.now m bytes c.in_ok-books.books.names _ there c.requires.apart
    c.in_ok-books.ensures.names framed in
    played_late c.args.folder.now c.args.topology c.args.lines.now c.args.capture.now m bytes c.in_ok-books.books.names _ there c.requires.apart
    c.in_ok-books.ensures.names framed
    (g.S.Shelf.files c.perform_script.new.shelf) before (g.O.Sink.written c.perform_script.new.out)
    (subst (λ t. IsLate t (packets_in c.args.capture.now bytes) c.args.lines.now c.in_ok-books.books.names m (g.S.Shelf.files c.perform_script.new.shelf) before
    (g.O.Sink.written c.perform_script.new.out))
    c.in-Ok-new.ensures.topology (c.perform_script.ensures.late _ told_so m framed before begun))

pub returns-in_err-books-clause-begun : goal.returns-in_err-books-clause-begun
returns-in_err-books-clause-begun g c = λ m is bytes there.
    let p = err_from_is_err_and c.from_residual.result c.from_residual.ensures.1 in rw (p.1, p.2) (written_failed _ m _ _)

pub returns-in_err-books-clause-untold : goal.returns-in_err-books-clause-untold
returns-in_err-books-clause-untold g c = λ m is bytes there before begun.
    let p = err_from_is_err_and c.from_residual.result c.from_residual.ensures.1 in rw (p.1, p.2) (written_untold _ before _ _)

pub returns-clause-begun : goal.returns-clause-begun
returns-clause-begun g c = λ m is bytes there.
    let framed = subst (λ o. Framed c.in_ok-books.books.names o (g.S.Shelf.files c.open.new.shelf)) is c.in_ok-books.ensures.framed in
    let told_so =
    told c.args.folder.now c.args.topology c.args.lines.now c.args.capture.now m bytes c.in_ok-books.books.names _ there c.requires.apart
    c.in_ok-books.ensures.names framed in
    played_begun c.args.folder.now c.args.topology c.args.lines.now c.args.capture.now m bytes c.in_ok-books.books.names _ there c.requires.apart
    c.in_ok-books.ensures.names framed
    (g.S.Shelf.files c.perform_script.new.shelf) c.perform_script.result
    (subst (λ t. BegunAtRead (running_files t (packets_in c.args.capture.now bytes) c.args.lines.now c.in_ok-books.books.names) m
    (g.S.Shelf.files c.perform_script.new.shelf) c.perform_script.result)
    c.in-Ok-new.ensures.topology (c.perform_script.ensures.begun _ told_so m framed))

pub returns-clause-untold : goal.returns-clause-untold
returns-clause-untold g c = λ m is bytes there before begun.
    let framed = subst (λ o. Framed c.in_ok-books.books.names o (g.S.Shelf.files c.open.new.shelf)) is c.in_ok-books.ensures.framed in
    let told_so =
    told c.args.folder.now c.args.topology c.args.lines.now c.args.capture.now m bytes c.in_ok-books.books.names _ there c.requires.apart
    c.in_ok-books.ensures.names framed in
    subst (λ t. UntoldAtRead (notes_text t (packets_in c.args.capture.now bytes) (expanded t (packets_in c.args.capture.now bytes) c.args.lines.now)) before
    (g.O.Sink.written c.perform_script.new.out) c.perform_script.result) c.in-Ok-new.ensures.topology
    (c.perform_script.ensures.untold _ told_so before begun)

pub returns-in_err-books-clause-text : goal.returns-in_err-books-clause-text
returns-in_err-books-clause-text g c = λ m is bytes there before begun.
    let p = err_from_is_err_and c.from_residual.result c.from_residual.ensures.1 in
    rw p.1 (put_nothing _ before (g.O.Sink.written c.args.out.now) begun)

pub returns-clause-cause : goal.returns-clause-cause
returns-clause-cause g c =
    let absent : Type 0 = Absent (g.S.Shelf.files c.args.shelf.now) c.args.capture.now.name in
    let untold = untold_absent (g.S.Shelf.files c.args.shelf.now) (g.S.Shelf.files c.open.new.shelf) c.in_ok-books.books.names c.args.capture.now
    (λ m bytes is there. (
      packets_in c.args.capture.now bytes,
      told c.args.folder.now c.args.topology c.args.lines.now c.args.capture.now m bytes c.in_ok-books.books.names _ there c.requires.apart
          c.in_ok-books.ensures.names (subst (λ o. Framed c.in_ok-books.books.names o (g.S.Shelf.files c.open.new.shelf)) is c.in_ok-books.ensures.framed),
    )) in
    blamed_after absent absent _ _ _ c.perform_script.result c.in_ok-books.ensures.reads c.in_ok-books.ensures.writes refl
    (blamed_by _ _ absent absent _ _ c.perform_script.result untold untold c.perform_script.ensures.cause)
