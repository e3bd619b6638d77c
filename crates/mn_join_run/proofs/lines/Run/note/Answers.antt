use Rattle.std.proofs.Common.{◌++◌, ℕ, List, Ok, sym, ◌∙◌, ap, subst}
use Rattle.std.specs.List.{flat_map}
use Rattle.mn_topo.specs.Network.{Network}
use Rattle.mn_course_laws.specs.Expansion.{sending_by}
use Rattle.mn_lines.specs.Lines.{refused_line, cause_text}
use Rattle.mn_lines.specs.Putting.{Puts, PutsPart}
use Rattle.mn_join_laws.specs.Pairing.{network}
use Rattle.mn_join_run.specs.Course.{goes_on, after_course}
use Rattle.mn_join_run.specs.Report.{refused_texts, exit_record, exits_file}
use Rattle.mn_join_run.specs.Outside.{outside, Stands, IsCut, Holding, Beginning}
use Rattle.mn_join_run.specs.Playing.{ending_of, IsNoted}
use Rattle.mn_join_run.specs.declared.desk.Desk.{Desk}
use Rattle.mn_join_run.proofs.Noting.{stands_out, cut_out, cut_noted, stood_noted, refused_on, refused_cut}
use Rattle.mn_join_run.proofs.Played.{noted_cut}
use Rattle.mn_join_run.proofs.lines.Run.note.Goals as goal

pub returns-in_err-put_exits-clause-noted : goal.returns-in_err-put_exits-clause-noted
returns-in_err-put_exits-clause-noted g c = λ pairing start run course names topology exits sendings stands.
    noted_cut start (after_course pairing run c.args.line.now course (ending_of c.args.played)) c.args.self.now.desk
    (outside c.args.self.now.desk.page (g.O.Sink.written c.args.out.now) c.put_exits.new.self.held (g.S.Shelf.files c.put_exits.new.shelf))
    c.from_residual.result _
    c.from_residual.ensures.1
    (cut_noted pairing start run c.args.line.now course (ending_of c.args.played)
    (outside c.args.self.now.desk.page (g.O.Sink.written c.args.out.now) c.put_exits.new.self.held (g.S.Shelf.files c.put_exits.new.shelf))
    (cut_out start run course c.args.self.now.pair.exits exits c.args.self.now.desk.page (g.O.Sink.written c.args.out.now) c.args.self.now.file.held
    c.put_exits.new.self.held (g.S.Shelf.files c.args.shelf.now) (g.S.Shelf.files c.put_exits.new.shelf) stands
    c.args.self.now.desk.page c.put_exits.new.self.held
    (subst (λ n. (bytes : List ℕ) → Holding n bytes c.args.self.now.file.held (g.S.Shelf.files c.args.shelf.now) →
    Beginning n (bytes ++ flat_map exit_record c.args.self.now.pair.exits) (g.S.Shelf.files c.put_exits.new.shelf))
    (sym names) c.in_err-put_exits.ensures.part)))

pub returns-in_err-send-in-All-clause-noted : goal.returns-in_err-send-in-All-clause-noted
returns-in_err-send-in-All-clause-noted g c = λ pairing start run course names topology exits sendings stands.
    let mid = stands_out start run course c.args.self.now.pair.exits exits c.args.self.now.desk.page (g.O.Sink.written c.args.out.now) c.args.self.now.file.held
    c.put_exits.new.self.held (g.S.Shelf.files c.args.shelf.now) (g.S.Shelf.files c.put_exits.new.shelf) stands
    (subst (λ n. (bytes : List ℕ) → Holding n bytes c.args.self.now.file.held (g.S.Shelf.files c.args.shelf.now) →
    Holding n (bytes ++ flat_map exit_record c.args.self.now.pair.exits) c.put_exits.new.self.held (g.S.Shelf.files c.put_exits.new.shelf))
    (sym names) c.in_ok-put_exits.ensures.grown) in
    noted_cut start (after_course pairing run c.args.line.now course (ending_of c.args.played)) c.send.new.self
    (outside c.send.new.self.page (g.O.Sink.written c.args.out.now) c.put_exits.new.self.held (g.S.Shelf.files c.put_exits.new.shelf))
    c.from_residual-in_err-send-in-All.result _ c.from_residual-in_err-send-in-All.ensures.1
    (stood_noted pairing start run c.args.line.now course (ending_of c.args.played)
    (outside c.send.new.self.page (g.O.Sink.written c.args.out.now) c.put_exits.new.self.held (g.S.Shelf.files c.put_exits.new.shelf))
    (subst (λ w. Stands start (refused_texts (goes_on run course)) (exits_file (goes_on run course).exits)
    (outside w (g.O.Sink.written c.args.out.now) c.put_exits.new.self.held (g.S.Shelf.files c.put_exits.new.shelf))) (sym c.in_err-send-in-All.ensures.page)
    mid))

pub returns-in_ok-send-in-All-clause-noted : goal.returns-in_ok-send-in-All-clause-noted
returns-in_ok-send-in-All-clause-noted g c = λ pairing start run course names topology exits sendings stands.
    let mid = stands_out start run course c.args.self.now.pair.exits exits c.args.self.now.desk.page (g.O.Sink.written c.args.out.now) c.args.self.now.file.held
    c.put_exits.new.self.held (g.S.Shelf.files c.args.shelf.now) (g.S.Shelf.files c.put_exits.new.shelf) stands
    (subst (λ n. (bytes : List ℕ) → Holding n bytes c.args.self.now.file.held (g.S.Shelf.files c.args.shelf.now) →
    Holding n (bytes ++ flat_map exit_record c.args.self.now.pair.exits) c.put_exits.new.self.held (g.S.Shelf.files c.put_exits.new.shelf))
    (sym names) c.in_ok-put_exits.ensures.grown) in
    subst (λ p. IsNoted {T = Unit {0}} start (after_course pairing run c.args.line.now course (ending_of p)) c.send.new.self
    (outside c.send.new.self.page (g.O.Sink.written c.args.out.now) c.put_exits.new.self.held (g.S.Shelf.files c.put_exits.new.shelf)) (Ok tt))
    (sym c.in-All.is) (
      c.in_ok-send-in-All.ensures.sent ∙ ap (λ l. l ++ sending_by c.args.line.now.number c.args.line.now.command) sendings,
      subst (λ w. Stands start (refused_texts (goes_on run course)) (exits_file (goes_on run course).exits)
          (outside w (g.O.Sink.written c.args.out.now) c.put_exits.new.self.held (g.S.Shelf.files c.put_exits.new.shelf)))
          (sym c.in_ok-send-in-All.ensures.page) mid,
    )

pub returns-in_err-put_refused-in-Refused-clause-noted : goal.returns-in_err-put_refused-in-Refused-clause-noted
returns-in_err-put_refused-in-Refused-clause-noted g c = λ pairing start run course names topology exits sendings stands.
    let mid = stands_out start run course c.args.self.now.pair.exits exits c.args.self.now.desk.page (g.O.Sink.written c.args.out.now) c.args.self.now.file.held
    c.put_exits.new.self.held (g.S.Shelf.files c.args.shelf.now) (g.S.Shelf.files c.put_exits.new.shelf) stands
    (subst (λ n. (bytes : List ℕ) → Holding n bytes c.args.self.now.file.held (g.S.Shelf.files c.args.shelf.now) →
    Holding n (bytes ++ flat_map exit_record c.args.self.now.pair.exits) c.put_exits.new.self.held (g.S.Shelf.files c.put_exits.new.shelf))
    (sym names) c.in_ok-put_exits.ensures.grown) in
    let now = outside c.put_refused.new.page (g.O.Sink.written c.put_refused.new.out) c.put_exits.new.self.held (g.S.Shelf.files c.put_exits.new.shelf) in
    let cause = cause_text (network pairing c.args.line.now.which).site_names c.in-Refused.why in
    noted_cut start (after_course pairing run c.args.line.now course (ending_of c.args.played))
    (record { page = c.put_refused.new.page; line = c.put_refused.new.line; sent = c.args.self.now.desk.sent }) now
    c.from_residual-in_err-put_refused-in-Refused.result _ c.from_residual-in_err-put_refused-in-Refused.ensures.1
    (subst (λ p. IsCut start (refused_texts (after_course pairing run c.args.line.now course (ending_of p)))
    (exits_file (after_course pairing run c.args.line.now course (ending_of p)).exits) now) (sym c.in-Refused.is)
    (refused_cut start (goes_on run course) c.args.line.now.number cause c.args.self.now.desk.page c.put_refused.new.page (g.O.Sink.written c.args.out.now)
    (g.O.Sink.written c.put_refused.new.out) c.put_exits.new.self.held c.put_exits.new.self.held (g.S.Shelf.files c.put_exits.new.shelf)
    (subst (λ (t : Network). PutsPart (refused_line c.args.line.now.number (cause_text t.site_names c.in-Refused.why)) c.args.self.now.desk.page
    (g.O.Sink.written c.args.out.now) (g.O.Sink.written c.put_refused.new.out)) (c.topology-topology.ensures ∙ ap (λ n. n.topology) c.net.ensures ∙ topology)
    c.in_err-put_refused-in-Refused.ensures.part) mid))

pub returns-in_ok-put_refused-in-Refused-clause-noted : goal.returns-in_ok-put_refused-in-Refused-clause-noted
returns-in_ok-put_refused-in-Refused-clause-noted g c = λ pairing start run course names topology exits sendings stands.
    let mid = stands_out start run course c.args.self.now.pair.exits exits c.args.self.now.desk.page (g.O.Sink.written c.args.out.now) c.args.self.now.file.held
    c.put_exits.new.self.held (g.S.Shelf.files c.args.shelf.now) (g.S.Shelf.files c.put_exits.new.shelf) stands
    (subst (λ n. (bytes : List ℕ) → Holding n bytes c.args.self.now.file.held (g.S.Shelf.files c.args.shelf.now) →
    Holding n (bytes ++ flat_map exit_record c.args.self.now.pair.exits) c.put_exits.new.self.held (g.S.Shelf.files c.put_exits.new.shelf))
    (sym names) c.in_ok-put_exits.ensures.grown) in
    let now = outside c.put_refused.new.page (g.O.Sink.written c.put_refused.new.out) c.put_exits.new.self.held (g.S.Shelf.files c.put_exits.new.shelf) in
    let cause = cause_text (network pairing c.args.line.now.which).site_names c.in-Refused.why in
    let desk : Desk = record { page = c.put_refused.new.page; line = c.put_refused.new.line; sent = c.args.self.now.desk.sent } in
    subst (λ p. IsNoted {T = Unit {0}} start (after_course pairing run c.args.line.now course (ending_of p)) desk now (Ok tt)) (sym c.in-Refused.is) (
      sendings,
      refused_on start (goes_on run course) c.args.line.now.number cause c.args.self.now.desk.page c.put_refused.new.page (g.O.Sink.written c.args.out.now)
          (g.O.Sink.written c.put_refused.new.out) c.put_exits.new.self.held (g.S.Shelf.files c.put_exits.new.shelf)
          (subst (λ (t : Network). Puts (refused_line c.args.line.now.number (cause_text t.site_names c.in-Refused.why)) c.args.self.now.desk.page
          c.put_refused.new.page (g.O.Sink.written c.args.out.now) (g.O.Sink.written c.put_refused.new.out))
          (c.topology-topology.ensures ∙ ap (λ n. n.topology) c.net.ensures ∙ topology) c.in_ok-put_refused-in-Refused.ensures.put) mid,
    )
