use Rattle.std.proofs.Common.{◌≡◌, [], length, true, false, not, None, Ok, Err, refl, sym, ◌∙◌, ap, subst, arith}
use Rattle.mn_edge.specs.Kept.{Framed}
use Rattle.mn_edge.specs.KeptLaws.{framed_same, framed_both}
use Rattle.mn_course_laws.specs.Expansion.{start_of}
use Rattle.mn_perform.specs.Recorded.{told_packets}
use Rattle.mn_perform.specs.declared.ended.Ended.TheVariants.{All, TooManySteps}
use Rattle.mn_perform.proofs.Ending.{stands_at, still_for}
use Rattle.mn_perform.proofs.Script.{line_went, goes_on, stops, breaks, all_gone}
use Rattle.mn_perform.proofs.Blaming.{blamed_by, blamed_after}
use Rattle.mn_perform.proofs.Results.{err_is}
use Rattle.mn_perform.proofs.lines.perform_lines.Goals as goal

pub loop-line-init : goal.loop-line-init
loop-line-init g c = record {
  names = refl;
  places = refl;
  topology = refl;
  framed = framed_same _ _;
  told = refl;
  clock = omega (arith, c.requires.tick);
  refused = omega (arith, c.requires.refused);
  at = λ all told. record { run = start_of (record { clock = 0; entries = [] }); keeps = c.requires.start all told; running = refl; rest = refl };
  reads = refl;
  writes = refl;
  faults = refl;
}

pub returns-then-not-works-clause-went : goal.returns-then-not-works-clause-went
returns-then-not-works-clause-went g c = λ all told.
    let at = c.loop-line.invariant.at all told in
    absurd (let e : false ≡ true = c.if-not-works.ensures ∙ ap not at.keeps.stands.works in cc)

pub perform_line-requires-clause-stands : goal.perform_line-requires-clause-stands
perform_line-requires-clause-stands g c = λ all told.
    let l = c.loop-line in
    let at = l.invariant.at all (sym l.invariant.told ∙ ap (λ n. told_packets (g.S.Shelf.files l.shelf) n c.args.capture.now) (sym l.invariant.names) ∙ told) in
    stands_at _ _ _ _ _ _ _ _ _ at.keeps

pub returns-in-TooManySteps-clause-framed : goal.returns-in-TooManySteps-clause-framed
returns-in-TooManySteps-clause-framed g c =
    let l = c.loop-line in
    framed_both _ _ _ _ l.invariant.framed
    (subst (λ n. Framed n (g.S.Shelf.files l.shelf) (g.S.Shelf.files c.perform_line.new.shelf)) l.invariant.names c.perform_line.ensures.framed)

pub returns-in_err-perform_line-clause-framed : goal.returns-in_err-perform_line-clause-framed
returns-in_err-perform_line-clause-framed g c =
    let l = c.loop-line in
    framed_both _ _ _ _ l.invariant.framed
    (subst (λ n. Framed n (g.S.Shelf.files l.shelf) (g.S.Shelf.files c.perform_line.new.shelf)) l.invariant.names c.perform_line.ensures.framed)

pub returns-in-TooManySteps-clause-went : goal.returns-in-TooManySteps-clause-went
returns-in-TooManySteps-clause-went g c = λ all told.
    let l = c.loop-line in
    let at = l.invariant.at all told in
    let told_now = ap (λ n. told_packets (g.S.Shelf.files l.shelf) n c.args.capture.now) l.invariant.names ∙ l.invariant.told ∙ told in
    stops _ _ _ c.args.lines.now l.line-index c.line-item.result c.loop-line-test.true c.line-item.is at.run at.running at.rest _ _ _ _ _
    (line_went _ _ _ _ at.run c.line-item.result _ _ _ _ _ c.perform_line.new.run.net c.perform_line.new.run.books c.perform_line.new.run.desk
    (g.S.Shelf.files c.perform_line.new.shelf)
    (g.O.Sink.written c.perform_line.new.out) (Ok TooManySteps) l.invariant.topology
    (rw c.in-TooManySteps.is at (c.in_ok-perform_line.ensures.went all told_now)) at.running at.keeps)

pub returns-in_err-perform_line-clause-went : goal.returns-in_err-perform_line-clause-went
returns-in_err-perform_line-clause-went g c = λ all told.
    let l = c.loop-line in
    let at = l.invariant.at all told in
    let told_now = ap (λ n. told_packets (g.S.Shelf.files l.shelf) n c.args.capture.now) l.invariant.names ∙ l.invariant.told ∙ told in
    rw (err_is c.from_residual.result c.in_err-perform_line.field-0.0 c.from_residual.ensures.1)
    (breaks _ _ _ c.args.lines.now l.line-index c.line-item.result c.loop-line-test.true c.line-item.is at.run at.running at.rest c.perform_line.new.run.net
    c.perform_line.new.run.books c.perform_line.new.run.desk _ _
    c.in_err-perform_line.field-0.0
    (line_went _ _ _ _ at.run c.line-item.result _ _ _ _ _ c.perform_line.new.run.net c.perform_line.new.run.books c.perform_line.new.run.desk _ _
    (Err c.in_err-perform_line.field-0.0) l.invariant.topology
    (c.in_err-perform_line.ensures.went all told_now) at.running at.keeps))

pub loop-line-preserved : goal.loop-line-preserved
loop-line-preserved g c =
    let l = c.loop-line in
    let done = c.in_ok-perform_line.ensures in
    let paced = done.clock c.in-All.is in
    record {
      names = c.perform_line.ensures.names ∙ l.invariant.names;
      places = c.perform_line.ensures.places ∙ l.invariant.places;
      topology = c.perform_line.ensures.topology ∙ l.invariant.topology;
      framed = framed_both _ _ _ _ l.invariant.framed
          (subst (λ n. Framed n (g.S.Shelf.files l.shelf) (g.S.Shelf.files c.perform_line.new.shelf)) l.invariant.names c.perform_line.ensures.framed);
      told = subst
          (λ n. told_packets (g.S.Shelf.files c.perform_line.new.shelf) n c.args.capture.now ≡ told_packets (g.S.Shelf.files l.shelf) n c.args.capture.now)
          l.invariant.names
          c.perform_line.ensures.told ∙ l.invariant.told;
      clock = omega (arith, paced.0, paced.1, l.invariant.clock);
      refused = omega (arith, done.refused, l.invariant.refused);
      at = λ all told.
          let at = l.invariant.at all told in
          let told_now = ap (λ n. told_packets (g.S.Shelf.files l.shelf) n c.args.capture.now) l.invariant.names ∙ l.invariant.told ∙ told in
          goes_on _ _ _ c.args.lines.now l.line-index c.line-item.result c.loop-line-test.true c.line-item.is at.run at.running at.rest _ _ _ _ _
          (line_went _ _ _ _ at.run c.line-item.result _ _ _ _ _ c.perform_line.new.run.net c.perform_line.new.run.books c.perform_line.new.run.desk
          (g.S.Shelf.files c.perform_line.new.shelf)
          (g.O.Sink.written c.perform_line.new.out) (Ok All) l.invariant.topology (rw c.in-All.is at (done.went all told_now)) at.running at.keeps);
      reads = done.cause.0 ∙ l.invariant.reads;
      writes = done.cause.1 ∙ l.invariant.writes;
      faults = done.cause.2 ∙ l.invariant.faults;
    }

pub returns-clause-went : goal.returns-clause-went
returns-clause-went g c = λ all told.
    let l = c.loop-line in
    all_gone _ _ _ c.args.lines.now l.line-index _ _ _ _ _ (let e : l.line-index ≡ length c.args.lines.now =
    omega (arith, l.auto.line-index-end, c.loop-line-test.false) in e)
    (l.invariant.at all told)

pub perform_line-requires-clause-files : goal.perform_line-requires-clause-files
perform_line-requires-clause-files g c =
    still_for _ _ _ _ c.loop-line.invariant.names c.loop-line.invariant.places c.loop-line.invariant.topology c.requires.files

pub returns-in_err-perform_line-clause-cause : goal.returns-in_err-perform_line-clause-cause
returns-in_err-perform_line-clause-cause g c =
    let l = c.loop-line in
    let untold : Type 0 = told_packets (g.S.Shelf.files c.args.shelf.now) c.args.run.now.books.names c.args.capture.now ≡ None in
    let now : Type 0 = told_packets (g.S.Shelf.files l.shelf) l.run.books.names c.args.capture.now ≡ None in
    let still : now → untold = λ none. sym (ap (λ n. told_packets (g.S.Shelf.files l.shelf) n c.args.capture.now) l.invariant.names ∙ l.invariant.told)
    ∙ none in
    rw (err_is c.from_residual.result c.in_err-perform_line.field-0.0 c.from_residual.ensures.1)
    (blamed_after {T = Unit {0}} untold untold
    (g.S.Shelf.read_faults c.args.shelf.now, g.S.Shelf.write_faults c.args.shelf.now, g.O.Sink.faults c.args.out.now)
    (g.S.Shelf.read_faults l.shelf, g.S.Shelf.write_faults l.shelf, g.O.Sink.faults l.out)
    (g.S.Shelf.read_faults c.perform_line.new.shelf, g.S.Shelf.write_faults c.perform_line.new.shelf, g.O.Sink.faults c.perform_line.new.out)
    (Err c.in_err-perform_line.field-0.0) l.invariant.reads l.invariant.writes l.invariant.faults
    (blamed_by {T = Unit {0}} now now untold untold
    (g.S.Shelf.read_faults l.shelf, g.S.Shelf.write_faults l.shelf, g.O.Sink.faults l.out)
    (g.S.Shelf.read_faults c.perform_line.new.shelf, g.S.Shelf.write_faults c.perform_line.new.shelf, g.O.Sink.faults c.perform_line.new.out)
    (Err c.in_err-perform_line.field-0.0) still still c.in_err-perform_line.ensures.cause))
