use Rattle.std.proofs.Common.{◌≡◌, ℕ, List, [], None, Some, Err, refl, sym, ◌∙◌, subst}
use Rattle.std.proofs.lemmas.Result.{err_from_is_err_and}
use Rattle.mn_edge.specs.Files.{Absent}
use Rattle.mn_edge.specs.Kept.{AllThere, Framed, Lacking}
use Rattle.mn_edge.specs.KeptLaws.{framed_both, holds_there}
use Rattle.mn_capture.specs.Packets.{packets_in}
use Rattle.mn_perform.specs.Recorded.{told_packets}
use Rattle.mn_perform.proofs.Blaming.{blamed_by, blamed_after, blamed_told, untold_absent}
use Rattle.mn_perform.proofs.Results.{err_is}
use Rattle.mn_perform.specs.declared.ended.Fault.TheVariants.{NoMemory}
use Rattle.mn_join_run.specs.Course.{run_of}
use Rattle.mn_join_run.specs.Outside.{Start, outside}
use Rattle.mn_join_run.specs.Ending.{RunEnds, start_in}
use Rattle.mn_join_run.proofs.Endings.{is_ended}
use Rattle.mn_join_run.proofs.Runs.{no_read_of, not_begun, packets_told, stands_at_start, keeps_at_start, unplayed, lines_break, lines_end}
use Rattle.mn_join_run.proofs.run.perform.Goals as goal

pub returns-in_err-file-clause-ends : goal.returns-in_err-file-clause-ends
returns-in_err-file-clause-ends g c = λ pairing stands goes m is bytes there.
    let start : Start = start_in c.args.script.now.folder.now (g.S.Shelf.files c.args.shelf.now) (g.O.Sink.written c.args.out.now) in
    let run = run_of pairing (packets_in c.args.script.now.capture.now bytes) c.args.script.now.lines.now in
    let why = err_from_is_err_and c.from_residual.result c.from_residual.ensures.1 in
    subst (RunEnds pairing start run (g.S.Shelf.files c.open.new.shelf) (g.O.Sink.written c.args.out.now)) (sym why.1)
    (not_begun pairing start run (g.S.Shelf.files c.open.new.shelf) why.0 (no_read_of _ why.0 why.2)
    (λ base there. c.in_err-file.ensures.part base there run.exits))

pub returns-in_default-clause-ends : goal.returns-in_default-clause-ends
returns-in_default-clause-ends g c = λ pairing stands goes m is bytes there.
    let start : Start = start_in c.args.script.now.folder.now (g.S.Shelf.files c.args.shelf.now) (g.O.Sink.written c.args.out.now) in
    unplayed pairing start (packets_in c.args.script.now.capture.now bytes) c.args.script.now.lines.now
    (outside [] (g.O.Sink.written c.args.out.now) c.in_ok-file.file.held (g.S.Shelf.files c.open.new.shelf)) NoMemory
    (stands_at_start c.args.script.now.folder.now (g.S.Shelf.files c.args.shelf.now) (g.S.Shelf.files c.open.new.shelf) (g.O.Sink.written c.args.out.now) []
    c.in_ok-file.file.held c.in_ok-file.file.names c.in_ok-file.ensures.names refl c.in_ok-file.ensures.held)
    (subst (λ n. Framed n (g.S.Shelf.files c.args.shelf.now) (g.S.Shelf.files c.open.new.shelf)) c.in_ok-file.ensures.names c.in_ok-file.ensures.framed)

pub finish-requires : goal.finish-requires
finish-requires g c =
    let start : Start = start_in c.args.script.now.folder.now (g.S.Shelf.files c.args.shelf.now) (g.O.Sink.written c.args.out.now) in
    let stands = stands_at_start c.args.script.now.folder.now (g.S.Shelf.files c.args.shelf.now) (g.S.Shelf.files c.open.new.shelf)
    (g.O.Sink.written c.args.out.now)
    c.in-Ok.desk.page c.in_ok-file.file.held c.in_ok-file.file.names c.in_ok-file.ensures.names c.in-Ok.ensures.page c.in_ok-file.ensures.held in
    let first = c.requires.start in
    let all = c.in_ok-how.ensures.went first.pairing start (sym c.in_ok-file.ensures.names)
    (keeps_at_start first.pairing start c.args.pair c.in-Ok.desk
    (outside c.in-Ok.desk.page (g.O.Sink.written c.args.out.now) c.in_ok-file.file.held (g.S.Shelf.files c.open.new.shelf)) first.stands first.goes
    c.in-Ok.ensures.sent stands) in
    record { ended = is_ended first.pairing start all.run c.do_lines.new.self.pair c.do_lines.new.self.desk _ c.in_ok-how.how all.went }

pub returns-in_err-how-clause-ends : goal.returns-in_err-how-clause-ends
returns-in_err-how-clause-ends g c = λ pairing at_first goes m is bytes there.
    let start : Start = start_in c.args.script.now.folder.now (g.S.Shelf.files c.args.shelf.now) (g.O.Sink.written c.args.out.now) in
    let packets = packets_in c.args.script.now.capture.now bytes in
    let stands = stands_at_start c.args.script.now.folder.now (g.S.Shelf.files c.args.shelf.now) (g.S.Shelf.files c.open.new.shelf)
    (g.O.Sink.written c.args.out.now)
    c.in-Ok.desk.page c.in_ok-file.file.held c.in_ok-file.file.names c.in_ok-file.ensures.names c.in-Ok.ensures.page c.in_ok-file.ensures.held in
    let framed = subst (λ n. Framed n (g.S.Shelf.files c.args.shelf.now) (g.S.Shelf.files c.open.new.shelf)) c.in_ok-file.ensures.names
    c.in_ok-file.ensures.framed in
    let told = packets_told c.args.script.now.folder.now c.args.script.now.capture.now pairing.first m (g.S.Shelf.files c.open.new.shelf) bytes c.requires.apart
    (subst (λ o. Framed start.names o (g.S.Shelf.files c.open.new.shelf)) is framed) there in
    let all = c.in_err-how.ensures.went pairing start (sym c.in_ok-file.ensures.names)
    (keeps_at_start pairing start c.args.pair c.in-Ok.desk
    (outside c.in-Ok.desk.page (g.O.Sink.written c.args.out.now) c.in_ok-file.file.held (g.S.Shelf.files c.open.new.shelf)) at_first goes
    c.in-Ok.ensures.sent stands) in
    subst (RunEnds pairing start (run_of pairing packets c.args.script.now.lines.now) (g.S.Shelf.files c.do_lines.new.shelf)
    (g.O.Sink.written c.do_lines.new.out))
    (sym (err_is c.from_residual-in_err-how.result c.in_err-how.field-0.0 c.from_residual-in_err-how.ensures.1))
    (lines_break pairing start (g.S.Shelf.files c.open.new.shelf) c.args.script.now.capture.now c.args.script.now.lines.now packets c.do_lines.new.self.pair
    c.do_lines.new.self.desk
    (outside c.do_lines.new.self.desk.page (g.O.Sink.written c.do_lines.new.out) c.do_lines.new.self.file.held (g.S.Shelf.files c.do_lines.new.shelf))
    c.in_err-how.field-0.0 told all
    (framed_both start.names _ _ _ framed (subst (λ n. Framed n (g.S.Shelf.files c.open.new.shelf) (g.S.Shelf.files c.do_lines.new.shelf))
    c.in_ok-file.ensures.names c.do_lines.ensures.framed)))

pub returns-clause-ends : goal.returns-clause-ends
returns-clause-ends g c = λ pairing at_first goes m is bytes there.
    let start : Start = start_in c.args.script.now.folder.now (g.S.Shelf.files c.args.shelf.now) (g.O.Sink.written c.args.out.now) in
    let packets = packets_in c.args.script.now.capture.now bytes in
    let stands = stands_at_start c.args.script.now.folder.now (g.S.Shelf.files c.args.shelf.now) (g.S.Shelf.files c.open.new.shelf)
    (g.O.Sink.written c.args.out.now)
    c.in-Ok.desk.page c.in_ok-file.file.held c.in_ok-file.file.names c.in_ok-file.ensures.names c.in-Ok.ensures.page c.in_ok-file.ensures.held in
    let framed = subst (λ n. Framed n (g.S.Shelf.files c.args.shelf.now) (g.S.Shelf.files c.open.new.shelf)) c.in_ok-file.ensures.names
    c.in_ok-file.ensures.framed in
    let told = packets_told c.args.script.now.folder.now c.args.script.now.capture.now pairing.first m (g.S.Shelf.files c.open.new.shelf) bytes c.requires.apart
    (subst (λ o. Framed start.names o (g.S.Shelf.files c.open.new.shelf)) is framed) there in
    let all = c.in_ok-how.ensures.went pairing start (sym c.in_ok-file.ensures.names)
    (keeps_at_start pairing start c.args.pair c.in-Ok.desk
    (outside c.in-Ok.desk.page (g.O.Sink.written c.args.out.now) c.in_ok-file.file.held (g.S.Shelf.files c.open.new.shelf)) at_first goes
    c.in-Ok.ensures.sent stands) in
    lines_end pairing start (g.S.Shelf.files c.open.new.shelf) (g.S.Shelf.files c.finish.new.shelf) c.args.script.now.capture.now c.args.script.now.lines.now
    packets
    c.do_lines.new.self.pair c.do_lines.new.self.desk
    (outside c.do_lines.new.self.desk.page (g.O.Sink.written c.do_lines.new.out) c.do_lines.new.self.file.held (g.S.Shelf.files c.do_lines.new.shelf))
    (g.O.Sink.written c.finish.new.out) c.in_ok-how.how c.finish.result told all
    (λ run went. c.finish.ensures.went pairing start run (sym (c.do_lines.ensures.names ∙ c.in_ok-file.ensures.names))
    (framed_both start.names _ _ _ framed (subst (λ n. Framed n (g.S.Shelf.files c.open.new.shelf) (g.S.Shelf.files c.do_lines.new.shelf))
    c.in_ok-file.ensures.names c.do_lines.ensures.framed)) went)

pub returns-in_err-how-clause-cause : goal.returns-in_err-how-clause-cause
returns-in_err-how-clause-cause g c =
    let names : List (List ℕ) = c.in_ok-file.file.names in
    let absent : Type 0 = Absent (g.S.Shelf.files c.args.shelf.now) c.args.script.now.capture.now.name in
    let lacking : Type 0 = Lacking names (g.S.Shelf.files c.open.new.shelf) in
    let why = c.in_err-how.field-0.0 in
    let untold = untold_absent (g.S.Shelf.files c.args.shelf.now) (g.S.Shelf.files c.open.new.shelf) names c.args.script.now.capture.now
    (λ m bytes is there. (
      packets_in c.args.script.now.capture.now bytes,
      subst (λ n. told_packets (g.S.Shelf.files c.open.new.shelf) n c.args.script.now.capture.now ≡ Some (packets_in c.args.script.now.capture.now bytes))
          (sym c.in_ok-file.ensures.names)
          (packets_told c.args.script.now.folder.now c.args.script.now.capture.now c.requires.start.pairing.first m (g.S.Shelf.files c.open.new.shelf) bytes
          c.requires.apart
          (subst (λ n. Framed n (Some m) (g.S.Shelf.files c.open.new.shelf)) c.in_ok-file.ensures.names
          (subst (λ o. Framed names o (g.S.Shelf.files c.open.new.shelf)) is c.in_ok-file.ensures.framed)) there),
    )) in
    rw (err_is c.from_residual-in_err-how.result why c.from_residual-in_err-how.ensures.1)
    (blamed_told {T = Unit {0}} (g.S.Shelf.files c.args.shelf.now) absent lacking
    (g.S.Shelf.read_faults c.args.shelf.now, g.S.Shelf.write_faults c.args.shelf.now, g.O.Sink.faults c.args.out.now)
    (g.S.Shelf.read_faults c.do_lines.new.shelf, g.S.Shelf.write_faults c.do_lines.new.shelf, g.O.Sink.faults c.do_lines.new.out)
    (Err why) (λ none. (g.met.S.Shelf.told c.args.shelf.now none).1)
    (λ m is lacks. lacks (holds_there _ _ _ _ (c.in_ok-file.ensures.held m is)))
    (blamed_after {T = Unit {0}} absent lacking
    (g.S.Shelf.read_faults c.args.shelf.now, g.S.Shelf.write_faults c.args.shelf.now, g.O.Sink.faults c.args.out.now)
    (g.S.Shelf.read_faults c.open.new.shelf, g.S.Shelf.write_faults c.open.new.shelf, g.O.Sink.faults c.args.out.now)
    (g.S.Shelf.read_faults c.do_lines.new.shelf, g.S.Shelf.write_faults c.do_lines.new.shelf, g.O.Sink.faults c.do_lines.new.out)
    (Err why) c.in_ok-file.ensures.reads c.in_ok-file.ensures.writes refl
    (blamed_by {T = Unit {0}} (told_packets (g.S.Shelf.files c.open.new.shelf) names c.args.script.now.capture.now ≡ None) lacking absent lacking
    (g.S.Shelf.read_faults c.open.new.shelf, g.S.Shelf.write_faults c.open.new.shelf, g.O.Sink.faults c.args.out.now)
    (g.S.Shelf.read_faults c.do_lines.new.shelf, g.S.Shelf.write_faults c.do_lines.new.shelf, g.O.Sink.faults c.do_lines.new.out)
    (Err why) untold (λ lacks. lacks) c.in_err-how.ensures.cause)))

pub returns-clause-cause : goal.returns-clause-cause
returns-clause-cause g c =
    let absent : Type 0 = Absent (g.S.Shelf.files c.args.shelf.now) c.args.script.now.capture.now.name in
    let lacking : Type 0 = Lacking c.do_lines.new.self.file.names (g.S.Shelf.files c.do_lines.new.shelf) in
    blamed_told (g.S.Shelf.files c.args.shelf.now) absent lacking _ _ c.finish.result (λ none. (g.met.S.Shelf.told c.args.shelf.now none).1)
    (λ m is lacks. lacks (subst (λ n. AllThere n (g.S.Shelf.files c.do_lines.new.shelf)) (sym c.do_lines.ensures.names)
    (c.do_lines.ensures.framed.stays (holds_there _ _ _ _ (c.in_ok-file.ensures.held m is)))))
    (blamed_after absent lacking _ _ _ c.finish.result (c.in_ok-how.ensures.cause.0 ∙ c.in_ok-file.ensures.reads)
    (c.in_ok-how.ensures.cause.1 ∙ c.in_ok-file.ensures.writes) c.in_ok-how.ensures.cause.2
    (blamed_by _ _ absent lacking _ _ c.finish.result (λ never. absurd never) (λ lacks. lacks) c.finish.ensures.cause))
