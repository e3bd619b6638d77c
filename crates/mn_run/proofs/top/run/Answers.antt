use Rattle.std.proofs.Common.{Ok, Err, refl, sym, ◌∙◌, ap, subst}
use Rattle.std.specs.Prelude.{is_some}
use Rattle.mn_edge.specs.Files.{file}
use Rattle.mn_edge.specs.Written.{texts}
use Rattle.mn_join_run.specs.Inside.{is_inside}
use Rattle.mn_answer.specs.Endings.{Answers}
use Rattle.mn_run.specs.declared.words.Job.TheVariants.{Run}
use Rattle.mn_run.specs.Words.{word}
use Rattle.mn_answer.proofs.Ending.{caused_after, sink_caused, caused_read}
use Rattle.mn_run.specs.Jobs.{AreRead, LoadedIs, InputsFit, ForDone}
use Rattle.mn_run.proofs.Doing.{run_makes_none, run_ends, refusal_ends, fault_ends, memory_ends}
use Rattle.mn_run.proofs.Forms.{apart}
use Rattle.mn_run.proofs.Loading.{loaded_by_words}
use Rattle.mn_run.proofs.top.run.Goals as goal

pub run_inputs-requires-clause-apart : goal.run_inputs-requires-clause-apart
run_inputs-requires-clause-apart g c =
    let fit : InputsFit c.word-3.result.now (Ok c.in-Ok-Ok.inputs) = subst (InputsFit c.word-3.result.now) c.in-Ok-Ok.field-0-is c.in-Ok-Ok.ensures.fits in
    ap (λ name. is_inside name c.word-folder.result.now) (fit.2 ∙ c.word-3.ensures) ∙ ap (is_inside (word (texts c.args.words.now) 3)) c.word-folder.ensures
    ∙ apart (texts c.args.words.now) c.requires

pub returns-in-Ok-Ok-clause-ends : goal.returns-in-Ok-Ok-clause-ends
returns-in-Ok-Ok-clause-ends g c =
    let fit : InputsFit c.word-3.result.now (Ok c.in-Ok-Ok.inputs) = subst (InputsFit c.word-3.result.now) c.in-Ok-Ok.field-0-is c.in-Ok-Ok.ensures.fits in
    run_ends (texts c.args.words.now) c.in-Ok-Ok.inputs _ _ _ _ c.run_inputs.result
    (λ m is. loaded_by_words (texts c.args.words.now) _ _ _ m (Ok c.in-Ok-Ok.inputs) (sym c.word.ensures) (sym c.word-2.ensures) (sym c.word-3.ensures)
    (subst (LoadedIs c.word.result.now c.word-2.result.now c.word-3.result.now m) c.in-Ok-Ok.field-0-is (c.in-Ok-Ok.ensures.answer m is)))
    (fit.2 ∙ c.word-3.ensures) c.laws.ensures fit.0 fit.1
    (subst (λ n. ForDone (λ answer m. Answers answer m (g.S.Shelf.files c.run_inputs.new.shelf) (g.O.Sink.written c.args.out.now)
    (g.O.Sink.written c.run_inputs.new.out)
    c.run_inputs.result) n c.in-Ok-Ok.inputs.topology c.in-Ok-Ok.inputs.lines.items c.in-Ok-Ok.inputs.capture (g.S.Shelf.files c.args.shelf.now))
    c.word-folder.ensures
    (subst (ForDone (λ answer m. Answers answer m (g.S.Shelf.files c.run_inputs.new.shelf) (g.O.Sink.written c.args.out.now)
    (g.O.Sink.written c.run_inputs.new.out)
    c.run_inputs.result) c.word-folder.result.now c.in-Ok-Ok.inputs.topology c.in-Ok-Ok.inputs.lines.items c.in-Ok-Ok.inputs.capture) c.load.ensures.same
    c.run_inputs.ensures.answers))

pub returns-in-Ok-Err-clause-ends : goal.returns-in-Ok-Err-clause-ends
returns-in-Ok-Err-clause-ends g c =
    refusal_ends Run (texts c.args.words.now) c.in-Ok-Err.outcome _ _ _ _ _ _ c.refuse.result run_makes_none
    (λ m is. loaded_by_words (texts c.args.words.now) _ _ _ m (Err c.in-Ok-Err.outcome) (sym c.word.ensures) (sym c.word-2.ensures) (sym c.word-3.ensures)
    (subst (LoadedIs c.word.result.now c.word-2.result.now c.word-3.result.now m) c.in-Ok-Err.field-0-is (c.in-Ok-Err.ensures.answer m is))
    (word (texts c.args.words.now) 4))
    c.load.ensures.same c.refuse.ensures.outcome c.refuse.ensures.text c.refuse.ensures.cause c.refuse.ensures.undone

pub returns-in-Err-Failed-clause-ends : goal.returns-in-Err-Failed-clause-ends
returns-in-Err-Failed-clause-ends g c = fault_ends Run (texts c.args.words.now) _ _ _ c.load.ensures.same

pub returns-in-Err-NoMemory-clause-ends : goal.returns-in-Err-NoMemory-clause-ends
returns-in-Err-NoMemory-clause-ends g c = memory_ends Run (texts c.args.words.now) _ _ _ c.load.ensures.same

pub run_inputs-requires-clause-there : goal.run_inputs-requires-clause-there
run_inputs-requires-clause-there g c = λ m is.
    let before = sym c.load.ensures.same ∙ is in
    let fit : InputsFit c.word-3.result.now (Ok c.in-Ok-Ok.inputs) = subst (InputsFit c.word-3.result.now) c.in-Ok-Ok.field-0-is c.in-Ok-Ok.ensures.fits in
    let read : AreRead c.word.result.now c.word-2.result.now c.word-3.result.now m c.in-Ok-Ok.inputs =
    subst (LoadedIs c.word.result.now c.word-2.result.now c.word-3.result.now m) c.in-Ok-Ok.field-0-is (c.in-Ok-Ok.ensures.answer m before) in
    ap is_some (ap (file m) fit.2 ∙ read.over.there)

pub returns-in-Ok-Ok-clause-cause : goal.returns-in-Ok-Ok-clause-cause
returns-in-Ok-Ok-clause-cause g c =
    caused_after ⊥ _ _ _ _ c.run_inputs.result c.in-Ok-Ok.ensures.reads c.load.ensures.writes refl (λ never. absurd never) c.run_inputs.ensures.cause

pub returns-in-Ok-Err-clause-cause : goal.returns-in-Ok-Err-clause-cause
returns-in-Ok-Err-clause-cause g c = sink_caused _ _ _ c.refuse.result c.in-Ok-Err.ensures.reads c.load.ensures.writes c.refuse.ensures.cause

pub returns-in-Err-Failed-clause-cause : goal.returns-in-Err-Failed-clause-cause
returns-in-Err-Failed-clause-cause g c =
    caused_read _ _ _ _ c.load.ensures.writes refl
    (λ none m is. rw (sym c.word.ensures, sym c.word-2.ensures, sym c.word-3.ensures) (none (word (texts c.args.words.now) 4) m is))
    (rw c.in-Err-Failed.field-0-is at c.in-Err-Failed.ensures.reads)
