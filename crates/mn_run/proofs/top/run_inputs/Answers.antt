use Rattle.std.proofs.Common.{◌≡◌, ℕ, true, false, List, Option, None, Some, sym, ◌∙◌, ap, subst}
use Rattle.std.specs.Prelude.{is_some, IsSome}
use Rattle.mn_edge.specs.Files.{Absent, file}
use Rattle.mn_capture.specs.Packets.{packets_in}
use Rattle.mn_course_laws.specs.Expansion.{expanded}
use Rattle.mn_output_laws.specs.Report as output
use Rattle.mn_join_run.specs.Running.{notes_text}
use Rattle.mn_join_run.specs.Whole.{running, EndsAs, FilesOf, BegunAtRead, UntoldAtRead, TextOf, TellsLate}
use Rattle.mn_run.specs.Answer.{run_done}
use Rattle.mn_answer.specs.Endings.{Answers, CausedBy}
use Rattle.mn_run.proofs.Playing.{played, blames}
use Rattle.mn_run.proofs.top.run_inputs.Goals as goal

gone : (o : Option (List ℕ)) → IsSome o → o ≡ None → ⊥
gone o some none = let e : true ≡ false = sym some ∙ ap is_some none in cc

pub returns-clause-answers : goal.returns-clause-answers
returns-clause-answers g c = λ m is bytes there.
    subst (Answers (Some (run_done c.args.folder.now c.args.inputs.topology c.args.inputs.lines.items (packets_in c.args.inputs.capture bytes))) m
    (g.S.Shelf.files c.perform-ended.new.shelf) (g.O.Sink.written c.args.out.now) (g.O.Sink.written c.perform-ended.new.out))
    (sym c.outcome_of.ensures)
    (played c.args.folder.now c.args.inputs.topology c.args.inputs.lines.items c.args.inputs.capture m bytes _ _ _ c.perform-ended.result there
    (subst (λ l. EndsAs (output.run_answer c.args.folder.now c.args.inputs.topology l (packets_in c.args.inputs.capture bytes)) c.perform-ended.result)
    c.as_slice.ensures.value (c.perform-ended.ensures.ended m is bytes there))
    (subst (λ l. FilesOf (output.run_answer c.args.folder.now c.args.inputs.topology l (packets_in c.args.inputs.capture bytes)) m
    (g.S.Shelf.files c.perform-ended.new.shelf) c.perform-ended.result) c.as_slice.ensures.value (c.perform-ended.ensures.files m is bytes there))
    (λ before begun.
    subst (λ l. TextOf (output.run_answer c.args.folder.now c.args.inputs.topology l (packets_in c.args.inputs.capture bytes)) before
    (g.O.Sink.written c.perform-ended.new.out) c.perform-ended.result) c.as_slice.ensures.value (c.perform-ended.ensures.text m is bytes there before begun))
    (λ before begun.
    subst (λ l. TellsLate c.args.folder.now c.args.inputs.topology l c.args.inputs.capture
    (output.run_answer c.args.folder.now c.args.inputs.topology l (packets_in c.args.inputs.capture bytes)) m (g.S.Shelf.files c.perform-ended.new.shelf) before
    (g.O.Sink.written c.perform-ended.new.out)) c.as_slice.ensures.value (c.perform-ended.ensures.late m is bytes there before begun))
    (subst (λ l. BegunAtRead (running c.args.folder.now c.args.inputs.topology (packets_in c.args.inputs.capture bytes)
    (expanded c.args.inputs.topology (packets_in c.args.inputs.capture bytes) l).past.entries) m
    (g.S.Shelf.files c.perform-ended.new.shelf) c.perform-ended.result) c.as_slice.ensures.value (c.perform-ended.ensures.begun m is bytes there))
    (λ before begun.
    subst (λ l. UntoldAtRead (notes_text c.args.inputs.topology (packets_in c.args.inputs.capture bytes)
    (expanded c.args.inputs.topology (packets_in c.args.inputs.capture bytes) l)) before
    (g.O.Sink.written c.perform-ended.new.out) c.perform-ended.result) c.as_slice.ensures.value
    (c.perform-ended.ensures.untold m is bytes there before begun)))

pub returns-clause-cause : goal.returns-clause-cause
returns-clause-cause g c =
    subst (CausedBy ⊥ _ _) (sym c.outcome_of.ensures)
    (blames (g.S.Shelf.files c.args.shelf.now) (Absent (g.S.Shelf.files c.args.shelf.now) c.args.inputs.capture.name) _ _ c.perform-ended.result
    (g.met.S.Shelf.told c.args.shelf.now) (λ m is absent. gone (file m c.args.inputs.capture.name) (c.requires.there m is) (absent m is))
    c.perform-ended.ensures.cause)
