use Rattle.std.proofs.Common.{◌≡◌, Some, sym, ◌∙◌, subst}
use Rattle.std.specs.Prelude.{All, true}
use Rattle.mn_topo.specs.Network.{Network}
use Rattle.mn_capture.specs.Packets.{packets_in}
use Rattle.mn_answer.specs.Endings.{Answers, CausedBy}
use Rattle.mn_answer.proofs.Ending.{memory_answers}
use Rattle.mn_join_laws.specs.declared.leg.Which.TheVariants.{First, Second}
use Rattle.mn_join.specs.Pairs.{AreSites, AreApart, pairing_of}
use Rattle.mn_join_script.specs.Language.{line_fits}
use Rattle.mn_join_run.specs.Course.{run_of}
use Rattle.mn_join_run.specs.Answer.{run_done, join_done}
use Rattle.mn_join_run.specs.Ending.{AreLawfulIfDone, RunEnds, start_in}
use Rattle.mn_join_run.proofs.Telling.{played, blames, no_usage}
use Rattle.mn_join_run.proofs.run.join_networks.Goals as goal

pub new-requires-clause-sites : goal.new-requires-clause-sites
new-requires-clause-sites g c = subst (AreSites c.args.inputs.first c.args.inputs.second) (sym c.deref-2.ensures.value) c.requires.fit.sites

pub new-requires-clause-apart : goal.new-requires-clause-apart
new-requires-clause-apart g c = subst AreApart (sym c.deref-2.ensures.value) c.requires.fit.apart

pub perform-requires-clause-start : goal.perform-requires-clause-start
perform-requires-clause-start g c = record {
  pairing = pairing_of c.args.inputs.first c.args.inputs.second c.deref-2.result.now;
  stands = c.in-Ok.ensures.stands;
  goes = c.in-Ok.ensures.goes;
}

pub perform-requires-clause-fit : goal.perform-requires-clause-fit
perform-requires-clause-fit g c =
    rw c.deref.ensures.value
    (subst (λ (t : Network). All (λ line. line_fits t c.in-Ok.pair.second.net.topology line ≡ true) c.args.inputs.lines.items)
    (sym (c.in-Ok.ensures.stands.sides First).topology)
    (subst (λ (t : Network). All (λ line. line_fits c.args.inputs.first t line ≡ true) c.args.inputs.lines.items)
    (sym (c.in-Ok.ensures.stands.sides Second).topology) c.requires.fit.fit))

pub returns-in-Ok-clause-answers : goal.returns-in-Ok-clause-answers
returns-in-Ok-clause-answers g c = λ m is bytes there.
    let pairing = pairing_of c.args.inputs.first c.args.inputs.second c.deref-2.result.now in
    let run = run_of pairing (packets_in c.args.inputs.capture bytes) c.deref.result.now in
    rw (sym c.deref-2.ensures.value, sym c.deref.ensures.value)
    (subst (Answers (Some (run_done c.args.folder.now pairing run)) m (g.S.Shelf.files c.perform.new.shelf) (g.O.Sink.written c.args.out.now)
    (g.O.Sink.written c.perform.new.out)) (sym c.outcome_by.ensures)
    (played c.args.folder.now pairing run m (g.S.Shelf.files c.perform.new.shelf) (g.O.Sink.written c.args.out.now) (g.O.Sink.written c.perform.new.out)
    c.perform.result
    (subst (λ o. RunEnds pairing (start_in c.args.folder.now o (g.O.Sink.written c.args.out.now)) run (g.S.Shelf.files c.perform.new.shelf)
    (g.O.Sink.written c.perform.new.out) c.perform.result) is
    (c.perform.ensures.ends pairing c.in-Ok.ensures.stands c.in-Ok.ensures.goes m is bytes there))))

pub returns-in-Ok-clause-lawful : goal.returns-in-Ok-clause-lawful
returns-in-Ok-clause-lawful g c = λ m is bytes there.
    let pairing = pairing_of c.args.inputs.first c.args.inputs.second c.deref-2.result.now in
    let run = run_of pairing (packets_in c.args.inputs.capture bytes) c.deref.result.now in
    rw (sym c.deref-2.ensures.value, sym c.deref.ensures.value)
    (subst (AreLawfulIfDone pairing run) (sym c.outcome_by.ensures)
    (c.perform.ensures.ends pairing c.in-Ok.ensures.stands c.in-Ok.ensures.goes m is bytes there).lawful)

pub returns-clause-lawful : goal.returns-clause-lawful
returns-clause-lawful g c = λ m is bytes there. tt

pub returns-in-Ok-clause-cause : goal.returns-in-Ok-clause-cause
returns-in-Ok-clause-cause g c =
    subst (CausedBy _ _ _) (sym c.outcome_by.ensures) (blames _ _ _ c.perform.result c.perform.ensures.cause)

pub returns-in-Ok-clause-usage : goal.returns-in-Ok-clause-usage
returns-in-Ok-clause-usage g c = λ e. no_usage c.perform.result (sym c.outcome_by.ensures ∙ e)

pub returns-clause-answers : goal.returns-clause-answers
returns-clause-answers g c = λ m is bytes there.
    memory_answers (Some (join_done c.args.folder.now (pairing_of c.args.inputs.first c.args.inputs.second c.args.inputs.joints.items)
    c.args.inputs.lines.items (packets_in c.args.inputs.capture bytes))) m (g.S.Shelf.files c.args.shelf.now) (g.O.Sink.written c.args.out.now) is
