use Rattle.std.proofs.Common.{Ok, ◌∙◌, ap, refl, subst, sym}
use Rattle.std.proofs.lemmas.Option.{none-some}
use Rattle.mn_edge.specs.Files.{file}
use Rattle.mn_capture.specs.Packets.{packets_in}
use Rattle.mn_answer.specs.Endings.{Answers}
use Rattle.mn_answer.proofs.Ending.{fault_answers, memory_answers, caused_after, caused_read, sink_caused}
use Rattle.mn_perform.specs.Inside.{is_inside}
use Rattle.mn_join_run.specs.Answer.{answer_for}
use Rattle.mn_join_run.specs.Loading.{AreRead, LoadedIs, InputsFit}
use Rattle.mn_join_run.proofs.Told.{undone, refused, played_told}
use Rattle.mn_join_run.proofs.command.join.Goals as goal

pub join_networks-requires-clause-fit : goal.join_networks-requires-clause-fit
join_networks-requires-clause-fit g c =
    let fit : InputsFit c.args.names.now (Ok c.in-Ok-Ok.inputs) = subst (InputsFit c.args.names.now) c.in-Ok-Ok.field-0-is c.in-Ok-Ok.ensures.fits in fit.0

pub join_networks-requires-clause-apart : goal.join_networks-requires-clause-apart
join_networks-requires-clause-apart g c =
    let fit : InputsFit c.args.names.now (Ok c.in-Ok-Ok.inputs) = subst (InputsFit c.args.names.now) c.in-Ok-Ok.field-0-is c.in-Ok-Ok.ensures.fits in
    ap (λ n. is_inside n c.args.names.now.folder.now) fit.1 ∙ c.requires.apart

pub returns-in-Ok-Ok-clause-answers : goal.returns-in-Ok-Ok-clause-answers
returns-in-Ok-Ok-clause-answers g c = λ m is.
    let fit : InputsFit c.args.names.now (Ok c.in-Ok-Ok.inputs) = subst (InputsFit c.args.names.now) c.in-Ok-Ok.field-0-is c.in-Ok-Ok.ensures.fits in
    let read : AreRead c.args.names.now m c.in-Ok-Ok.inputs = subst (LoadedIs c.args.names.now m) c.in-Ok-Ok.field-0-is (c.in-Ok-Ok.ensures.answer m is) in
    subst (λ a. Answers a m (g.S.Shelf.files c.join_networks.new.shelf) (g.O.Sink.written c.args.out.now) (g.O.Sink.written c.join_networks.new.out)
    c.join_networks.result) (sym read.answer)
    (c.join_networks.ensures.answers m (c.load.ensures.same ∙ is) read.bytes (ap (file m) fit.1 ∙ read.there))

pub returns-in-Ok-Ok-clause-told : goal.returns-in-Ok-Ok-clause-told
returns-in-Ok-Ok-clause-told g c = λ m is before begun.
    let names = c.args.names.now in
    let inputs = c.in-Ok-Ok.inputs in
    let fit : InputsFit c.args.names.now (Ok c.in-Ok-Ok.inputs) = subst (InputsFit c.args.names.now) c.in-Ok-Ok.field-0-is c.in-Ok-Ok.ensures.fits in
    let read : AreRead c.args.names.now m c.in-Ok-Ok.inputs = subst (LoadedIs c.args.names.now m) c.in-Ok-Ok.field-0-is (c.in-Ok-Ok.ensures.answer m is) in
    let there = ap (file m) fit.1 ∙ read.there in
    let answers = c.join_networks.ensures.answers m (c.load.ensures.same ∙ is) read.bytes there in
    played_told names.first.now names.second.now names.joints.now names.script.now names.capture.now names.folder.now m before
    (g.S.Shelf.files c.join_networks.new.shelf) (g.O.Sink.written c.join_networks.new.out) inputs.first inputs.second inputs.joints.items inputs.lines.items
    (packets_in inputs.capture read.bytes) c.join_networks.result read.first_read read.second_read read.joints_read read.lines_read read.capture_read
    c.laws.ensures c.laws-in-Ok-Ok.ensures (c.join_networks.ensures.lawful m (c.load.ensures.same ∙ is) read.bytes there) answers.outcome_is answers.files_are
    (answers.text_is before begun)

pub returns-in-Ok-Ok-clause-cause : goal.returns-in-Ok-Ok-clause-cause
returns-in-Ok-Ok-clause-cause g c =
    caused_after _ _ _ _ _ c.join_networks.result c.in-Ok-Ok.ensures.reads c.load.ensures.writes refl
    (λ absent m is.
    let fit : InputsFit c.args.names.now (Ok c.in-Ok-Ok.inputs) = subst (InputsFit c.args.names.now) c.in-Ok-Ok.field-0-is c.in-Ok-Ok.ensures.fits in
    let read : AreRead c.args.names.now m c.in-Ok-Ok.inputs = subst (LoadedIs c.args.names.now m) c.in-Ok-Ok.field-0-is (c.in-Ok-Ok.ensures.answer m is) in
    absurd (none-some read.bytes (sym (absent m (c.load.ensures.same ∙ is)) ∙ ap (file m) fit.1 ∙ read.there)))
    c.join_networks.ensures.cause

pub returns-in-Ok-Err-clause-answers : goal.returns-in-Ok-Err-clause-answers
returns-in-Ok-Err-clause-answers g c = λ m is.
    refused (answer_for c.args.names.now m) c.in-Ok-Err.outcome m _ _ _ _ _ c.refuse.result
    (subst (LoadedIs c.args.names.now m) c.in-Ok-Err.field-0-is (c.in-Ok-Err.ensures.answer m is)) (c.load.ensures.same ∙ is)
    c.refuse.ensures.outcome c.refuse.ensures.text c.refuse.ensures.cause

pub returns-in-Ok-Err-clause-told : goal.returns-in-Ok-Err-clause-told
returns-in-Ok-Err-clause-told g c = λ m is before begun.
    let names = c.args.names.now in
    undone names.first.now names.second.now names.joints.now names.script.now names.capture.now names.folder.now m before _ _ c.refuse.result
    c.refuse.ensures.undone

pub returns-in-Ok-Err-clause-cause : goal.returns-in-Ok-Err-clause-cause
returns-in-Ok-Err-clause-cause g c = sink_caused _ _ _ c.refuse.result c.in-Ok-Err.ensures.reads c.load.ensures.writes c.refuse.ensures.cause

pub returns-in-Err-Failed-clause-answers : goal.returns-in-Err-Failed-clause-answers
returns-in-Err-Failed-clause-answers g c = λ m is. fault_answers (answer_for c.args.names.now m) m _ _ (c.load.ensures.same ∙ is)

pub returns-in-Err-Failed-clause-cause : goal.returns-in-Err-Failed-clause-cause
returns-in-Err-Failed-clause-cause g c =
    caused_read _ _ _ _ c.load.ensures.writes refl (λ none. none) (rw c.in-Err-Failed.field-0-is at c.in-Err-Failed.ensures.reads)

pub returns-in-Err-NoMemory-clause-answers : goal.returns-in-Err-NoMemory-clause-answers
returns-in-Err-NoMemory-clause-answers g c = λ m is. memory_answers (answer_for c.args.names.now m) m _ _ (c.load.ensures.same ∙ is)
