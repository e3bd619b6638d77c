use Rattle.std.proofs.Common.{◌≡◌, None, Err, length, refl, sym, ◌∙◌, ap, subst, arith}
use Rattle.mn_edge.specs.Kept.{Framed, Lacking}
use Rattle.mn_edge.specs.KeptLaws.{framed_same}
use Rattle.mn_perform.specs.Laws.{same_packets}
use Rattle.mn_perform.specs.Recorded.{told_packets}
use Rattle.mn_perform.proofs.Blaming.{blamed_by, blamed_after}
use Rattle.mn_perform.proofs.Adding.{framed_then}
use Rattle.mn_perform.proofs.Results.{err_is}
use Rattle.mn_join_run.specs.Course.{at_start}
use Rattle.mn_join_run.specs.Outside.{outside}
use Rattle.mn_join_run.proofs.Going.{goes_on, stops, breaks, all_gone}
use Rattle.mn_join_run.proofs.lines.Run.do_lines.Goals as goal

pub loop-line-init : goal.loop-line-init
loop-line-init g c = record {
  names = refl;
  first = refl;
  second = refl;
  framed = framed_same _ _;
  at = λ pairing start names keeps. record { run = at_start; keeps = keeps; rest = λ all told. refl };
  reads = refl;
  writes = refl;
  faults = refl;
}

pub returns-in-TooManySteps-clause-framed : goal.returns-in-TooManySteps-clause-framed
returns-in-TooManySteps-clause-framed g c =
    let l = c.loop-line in framed_then c.args.self.now.file.names l.self.file.names _ _ _ l.invariant.names l.invariant.framed c.do_line.ensures.framed

pub returns-in_err-do_line-clause-framed : goal.returns-in_err-do_line-clause-framed
returns-in_err-do_line-clause-framed g c =
    let l = c.loop-line in framed_then c.args.self.now.file.names l.self.file.names _ _ _ l.invariant.names l.invariant.framed c.do_line.ensures.framed

pub returns-in-TooManySteps-clause-went : goal.returns-in-TooManySteps-clause-went
returns-in-TooManySteps-clause-went g c = λ pairing start names keeps.
    let l = c.loop-line in
    let at = l.invariant.at pairing start names keeps in
    let same = same_packets start.names c.args.script.now.capture.now (g.S.Shelf.files c.args.shelf.now) (g.S.Shelf.files l.shelf)
    (subst (λ n. Framed n (g.S.Shelf.files c.args.shelf.now) (g.S.Shelf.files l.shelf)) (sym names) l.invariant.framed) in
    stops pairing start (g.S.Shelf.files c.args.shelf.now) (g.S.Shelf.files l.shelf) c.args.script.now.capture.now c.args.script.now.lines.now l.line-index
    c.line-item.result
    c.loop-line-test.true c.line-item.is same at.run at.keeps.running at.rest c.do_line.new.self.pair c.do_line.new.self.desk
    (outside c.do_line.new.self.desk.page (g.O.Sink.written c.do_line.new.out) c.do_line.new.self.file.held (g.S.Shelf.files c.do_line.new.shelf))
    (rw c.in-TooManySteps.is at (c.in_ok-do_line.ensures.went pairing start at.run (names ∙ sym l.invariant.names) at.keeps))

pub returns-in_err-do_line-clause-went : goal.returns-in_err-do_line-clause-went
returns-in_err-do_line-clause-went g c = λ pairing start names keeps.
    let l = c.loop-line in
    let at = l.invariant.at pairing start names keeps in
    let same = same_packets start.names c.args.script.now.capture.now (g.S.Shelf.files c.args.shelf.now) (g.S.Shelf.files l.shelf)
    (subst (λ n. Framed n (g.S.Shelf.files c.args.shelf.now) (g.S.Shelf.files l.shelf)) (sym names) l.invariant.framed) in
    rw (err_is c.from_residual.result c.in_err-do_line.field-0.0 c.from_residual.ensures.1)
    (breaks pairing start (g.S.Shelf.files c.args.shelf.now) (g.S.Shelf.files l.shelf) c.args.script.now.capture.now c.args.script.now.lines.now l.line-index
    c.line-item.result
    c.loop-line-test.true c.line-item.is same at.run at.keeps.running at.rest c.do_line.new.self.pair c.do_line.new.self.desk
    (outside c.do_line.new.self.desk.page (g.O.Sink.written c.do_line.new.out) c.do_line.new.self.file.held (g.S.Shelf.files c.do_line.new.shelf))
    c.in_err-do_line.field-0.0
    (c.in_err-do_line.ensures.went pairing start at.run (names ∙ sym l.invariant.names) at.keeps))

pub loop-line-preserved : goal.loop-line-preserved
loop-line-preserved g c =
    let l = c.loop-line in
    let done = c.in_ok-do_line.ensures in
    record {
      names = c.do_line.ensures.names ∙ l.invariant.names;
      first = c.do_line.ensures.first ∙ l.invariant.first;
      second = c.do_line.ensures.second ∙ l.invariant.second;
      framed = framed_then c.args.self.now.file.names l.self.file.names _ _ _ l.invariant.names l.invariant.framed c.do_line.ensures.framed;
      at = λ pairing start names keeps.
          let at = l.invariant.at pairing start names keeps in
          let same = same_packets start.names c.args.script.now.capture.now (g.S.Shelf.files c.args.shelf.now) (g.S.Shelf.files l.shelf)
          (subst (λ n. Framed n (g.S.Shelf.files c.args.shelf.now) (g.S.Shelf.files l.shelf)) (sym names) l.invariant.framed) in
          goes_on pairing start (g.S.Shelf.files c.args.shelf.now) (g.S.Shelf.files l.shelf) c.args.script.now.capture.now c.args.script.now.lines.now
          l.line-index
          c.line-item.result c.loop-line-test.true c.line-item.is same at.run at.keeps.running at.rest c.do_line.new.self.pair c.do_line.new.self.desk
          (outside c.do_line.new.self.desk.page (g.O.Sink.written c.do_line.new.out) c.do_line.new.self.file.held (g.S.Shelf.files c.do_line.new.shelf))
          (rw c.in-All.is at (done.went pairing start at.run (names ∙ sym l.invariant.names) at.keeps));
      reads = done.cause.0 ∙ l.invariant.reads;
      writes = done.cause.1 ∙ l.invariant.writes;
      faults = done.cause.2 ∙ l.invariant.faults;
    }

pub returns-clause-went : goal.returns-clause-went
returns-clause-went g c = λ pairing start names keeps.
    let l = c.loop-line in
    all_gone pairing start _ c.args.script.now.capture.now c.args.script.now.lines.now l.line-index _ _ _
    (let e : l.line-index ≡ length c.args.script.now.lines.now =
    omega (arith, l.auto.line-index-end, c.loop-line-test.false) in e)
    (l.invariant.at pairing start names keeps)

pub returns-in_err-do_line-clause-cause : goal.returns-in_err-do_line-clause-cause
returns-in_err-do_line-clause-cause g c =
    let l = c.loop-line in
    let untold : Type 0 = told_packets (g.S.Shelf.files c.args.shelf.now) c.args.self.now.file.names c.args.script.now.capture.now ≡ None in
    let lacking : Type 0 = Lacking c.args.self.now.file.names (g.S.Shelf.files c.args.shelf.now) in
    rw (err_is c.from_residual.result c.in_err-do_line.field-0.0 c.from_residual.ensures.1)
    (blamed_after {T = Unit {0}} untold lacking
    (g.S.Shelf.read_faults c.args.shelf.now, g.S.Shelf.write_faults c.args.shelf.now, g.O.Sink.faults c.args.out.now)
    (g.S.Shelf.read_faults l.shelf, g.S.Shelf.write_faults l.shelf, g.O.Sink.faults l.out)
    (g.S.Shelf.read_faults c.do_line.new.shelf, g.S.Shelf.write_faults c.do_line.new.shelf, g.O.Sink.faults c.do_line.new.out)
    (Err c.in_err-do_line.field-0.0) l.invariant.reads l.invariant.writes l.invariant.faults
    (blamed_by {T = Unit {0}} (told_packets (g.S.Shelf.files l.shelf) l.self.file.names c.args.script.now.capture.now ≡ None)
    (Lacking l.self.file.names (g.S.Shelf.files l.shelf))
    untold lacking
    (g.S.Shelf.read_faults l.shelf, g.S.Shelf.write_faults l.shelf, g.O.Sink.faults l.out)
    (g.S.Shelf.read_faults c.do_line.new.shelf, g.S.Shelf.write_faults c.do_line.new.shelf, g.O.Sink.faults c.do_line.new.out)
    (Err c.in_err-do_line.field-0.0)
    (λ none. sym (same_packets _ _ _ _ l.invariant.framed)
    ∙ ap (λ n. told_packets (g.S.Shelf.files l.shelf) n c.args.script.now.capture.now) (sym l.invariant.names)
    ∙ none)
    (λ lacks all. subst (λ n. Lacking n (g.S.Shelf.files l.shelf)) l.invariant.names lacks (l.invariant.framed.stays all))
    c.in_err-do_line.ensures.cause))
