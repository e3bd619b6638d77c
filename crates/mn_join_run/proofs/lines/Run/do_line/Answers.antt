use Rattle.std.proofs.Common.{◌≡◌, Some, None, refl, sym, subst}
use Rattle.std.specs.Prelude.{codes}
use Rattle.mn_edge.specs.FaultLaws.{grew_by}
use Rattle.mn_edge.specs.Kept.{Framed, Lacking}
use Rattle.mn_edge.specs.KeptLaws.{framed_same}
use Rattle.mn_perform.specs.Recorded.{told_packets}
use Rattle.mn_perform.proofs.Blaming.{absent_untold, blamed_by, blamed_after}
use Rattle.mn_perform.specs.declared.ended.Fault.TheVariants.{Read, NoMemory}
use Rattle.mn_join_run.specs.Course.{with_packet}
use Rattle.mn_join_run.specs.Outside.{outside}
use Rattle.mn_join_run.specs.Playing.{Keeps}
use Rattle.mn_join_run.specs.declared.desk.Desk.{Desk}
use Rattle.mn_join_run.proofs.Going.{line_cut}
use Rattle.mn_join_run.proofs.Noting.{refused_on, refused_cut}
use Rattle.mn_join_run.proofs.Played.{went_cut, line_unplayed, record_missing}
use Rattle.mn_join_run.proofs.lines.Run.do_line.Goals as goal

pub returns-in-Ok-Some-clause-went : goal.returns-in-Ok-Some-clause-went
returns-in-Ok-Some-clause-went g c = λ pairing start run names keeps.
    let kept = subst (λ f. Keeps pairing start run c.args.self.now.pair c.args.self.now.desk
    (outside c.args.self.now.desk.page (g.O.Sink.written c.args.out.now) c.args.self.now.file.held f))
    (sym c.fetch.ensures.same) keeps in
    record {
      packet = Some c.in-Ok-Some.packet.now;
      is_packet = rw c.in-Ok-Some.field-0-is at (c.in-Ok-Some.ensures.told start.names);
      went = c.play_line.ensures.went pairing start run names kept;
    }

pub returns-in_ok-put_refused-in-Ok-None-clause-went : goal.returns-in_ok-put_refused-in-Ok-None-clause-went
returns-in_ok-put_refused-in-Ok-None-clause-went g c = λ pairing start run names keeps.
    let kept = subst (λ f. Keeps pairing start run c.args.self.now.pair c.args.self.now.desk
    (outside c.args.self.now.desk.page (g.O.Sink.written c.args.out.now) c.args.self.now.file.held f))
    (sym c.fetch.ensures.same) keeps in
    let desk : Desk = record { page = c.put_refused.new.page; line = c.put_refused.new.line; sent = c.args.self.now.desk.sent } in
    let now = outside c.put_refused.new.page (g.O.Sink.written c.put_refused.new.out) c.args.self.now.file.held (g.S.Shelf.files c.fetch.new.shelf) in
    record {
      packet = None;
      is_packet = rw c.in-Ok-None.field-0-is at (c.in-Ok-None.ensures.told start.names);
      went = record_missing pairing start run c.args.line.now c.args.self.now.pair c.args.self.now.desk desk
          (outside c.args.self.now.desk.page (g.O.Sink.written c.args.out.now) c.args.self.now.file.held (g.S.Shelf.files c.fetch.new.shelf)) now refl kept
          (refused_on start run c.args.line.now.number (codes "NoRecord") c.args.self.now.desk.page c.put_refused.new.page (g.O.Sink.written c.args.out.now)
          (g.O.Sink.written c.put_refused.new.out) c.args.self.now.file.held (g.S.Shelf.files c.fetch.new.shelf) c.in_ok-put_refused-in-Ok-None.ensures.put
          kept.outside);
    }

pub returns-in_ok-put_refused-in-Ok-None-clause-framed : goal.returns-in_ok-put_refused-in-Ok-None-clause-framed
returns-in_ok-put_refused-in-Ok-None-clause-framed g c =
    subst (λ f. Framed c.args.self.now.file.names (g.S.Shelf.files c.args.shelf.now) f) (sym c.fetch.ensures.same) (framed_same _ _)

pub returns-in_err-put_refused-in-Ok-None-clause-went : goal.returns-in_err-put_refused-in-Ok-None-clause-went
returns-in_err-put_refused-in-Ok-None-clause-went g c = λ pairing start run names keeps.
    let kept = subst (λ f. Keeps pairing start run c.args.self.now.pair c.args.self.now.desk
    (outside c.args.self.now.desk.page (g.O.Sink.written c.args.out.now) c.args.self.now.file.held f))
    (sym c.fetch.ensures.same) keeps in
    let desk : Desk = record { page = c.put_refused.new.page; line = c.put_refused.new.line; sent = c.args.self.now.desk.sent } in
    let now = outside c.put_refused.new.page (g.O.Sink.written c.put_refused.new.out) c.args.self.now.file.held (g.S.Shelf.files c.fetch.new.shelf) in
    record {
      packet = None;
      is_packet = rw c.in-Ok-None.field-0-is at (c.in-Ok-None.ensures.told start.names);
      went = went_cut pairing start (with_packet pairing run c.args.line.now None) c.args.self.now.pair desk now c.from_residual.result _
          c.from_residual.ensures.1
          (refused_cut start run c.args.line.now.number (codes "NoRecord") c.args.self.now.desk.page c.put_refused.new.page (g.O.Sink.written c.args.out.now)
          (g.O.Sink.written c.put_refused.new.out) c.args.self.now.file.held c.args.self.now.file.held
          (g.S.Shelf.files c.fetch.new.shelf) c.in_err-put_refused-in-Ok-None.ensures.part
          kept.outside);
    }

pub returns-in_err-put_refused-in-Ok-None-clause-framed : goal.returns-in_err-put_refused-in-Ok-None-clause-framed
returns-in_err-put_refused-in-Ok-None-clause-framed g c =
    subst (λ f. Framed c.args.self.now.file.names (g.S.Shelf.files c.args.shelf.now) f) (sym c.fetch.ensures.same) (framed_same _ _)

pub returns-in-Err-Failed-clause-went : goal.returns-in-Err-Failed-clause-went
returns-in-Err-Failed-clause-went g c = λ pairing start run names keeps.
    let now = outside c.args.self.now.desk.page (g.O.Sink.written c.args.out.now) c.args.self.now.file.held (g.S.Shelf.files c.fetch.new.shelf) in
    let kept = subst (λ f. Keeps pairing start run c.args.self.now.pair c.args.self.now.desk
    (outside c.args.self.now.desk.page (g.O.Sink.written c.args.out.now) c.args.self.now.file.held f))
    (sym c.fetch.ensures.same) keeps in
    line_cut pairing start run c.args.line.now (g.S.Shelf.files c.args.shelf.now) c.args.capture.now c.args.self.now.pair c.args.self.now.desk now Read
    (λ packet. line_unplayed pairing start run c.args.line.now packet now kept.outside)

pub returns-in-Err-Failed-clause-framed : goal.returns-in-Err-Failed-clause-framed
returns-in-Err-Failed-clause-framed g c =
    subst (λ f. Framed c.args.self.now.file.names (g.S.Shelf.files c.args.shelf.now) f) (sym c.fetch.ensures.same) (framed_same _ _)

pub returns-in-Err-NoMemory-clause-went : goal.returns-in-Err-NoMemory-clause-went
returns-in-Err-NoMemory-clause-went g c = λ pairing start run names keeps.
    let now = outside c.args.self.now.desk.page (g.O.Sink.written c.args.out.now) c.args.self.now.file.held (g.S.Shelf.files c.fetch.new.shelf) in
    let kept = subst (λ f. Keeps pairing start run c.args.self.now.pair c.args.self.now.desk
    (outside c.args.self.now.desk.page (g.O.Sink.written c.args.out.now) c.args.self.now.file.held f))
    (sym c.fetch.ensures.same) keeps in
    line_cut pairing start run c.args.line.now (g.S.Shelf.files c.args.shelf.now) c.args.capture.now c.args.self.now.pair c.args.self.now.desk now NoMemory
    (λ packet. line_unplayed pairing start run c.args.line.now packet now kept.outside)

pub returns-in-Err-NoMemory-clause-framed : goal.returns-in-Err-NoMemory-clause-framed
returns-in-Err-NoMemory-clause-framed g c =
    subst (λ f. Framed c.args.self.now.file.names (g.S.Shelf.files c.args.shelf.now) f) (sym c.fetch.ensures.same) (framed_same _ _)

pub returns-in-Ok-Some-clause-cause : goal.returns-in-Ok-Some-clause-cause
returns-in-Ok-Some-clause-cause g c =
    let untold : Type 0 = told_packets (g.S.Shelf.files c.args.shelf.now) c.args.self.now.file.names c.args.capture.now ≡ None in
    let lacking : Type 0 = Lacking c.args.self.now.file.names (g.S.Shelf.files c.args.shelf.now) in
    blamed_after untold lacking _ _ _ c.play_line.result c.in-Ok-Some.ensures.reads c.fetch.ensures.writes refl
    (blamed_by _ _ untold lacking _ _ c.play_line.result (λ never. absurd never)
    (subst (Lacking c.args.self.now.file.names) c.fetch.ensures.same) c.play_line.ensures.cause)

pub returns-in-Err-Failed-clause-cause : goal.returns-in-Err-Failed-clause-cause
returns-in-Err-Failed-clause-cause g c = (
  grew_by _ _ _ _ (absent_untold (g.S.Shelf.files c.args.shelf.now) c.args.self.now.file.names c.args.capture.now)
      (rw c.in-Err-Failed.field-0-is at c.in-Err-Failed.ensures.reads),
  c.fetch.ensures.writes,
  refl,
)
