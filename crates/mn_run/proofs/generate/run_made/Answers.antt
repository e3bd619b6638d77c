use Rattle.std.proofs.Common.{◌≡◌, sym, ◌∙◌, subst}
use Rattle.std.specs.Prelude.{IfOk}
use Rattle.mn_course_laws.specs.Expansion.{expanded}
use Rattle.mn_join_run.specs.Memory.{packets_at}
use Rattle.mn_join_run.specs.Running.{is_stopped}
use Rattle.mn_join_run.specs.Total.{total_text, PutsWhole}
use Rattle.mn_run.specs.Answer.{generated_line, generated_done}
use Rattle.mn_answer.specs.Endings.{OutcomeIs, TextIs, SinkCausedBy}
use Rattle.std.specs.Prelude.{Some}
use Rattle.mn_run.proofs.Generating.{ends, tells, sink_blames}
use Rattle.mn_run.proofs.generate.run_made.Goals as goal

pub returns-clause-outcome : goal.returns-clause-outcome
returns-clause-outcome g c =
    subst (OutcomeIs (Some (generated_done c.args.number c.args.made.topology c.args.made.lines.items (packets_at c.args.made.capture))))
    (sym c.outcome_of.ensures)
    (ends c.args.number c.args.made.topology c.args.made.lines.items (packets_at c.args.made.capture) c.tally-ended.result
    (subst (λ l. IfOk c.tally-ended.result (λ how. (expanded c.args.made.topology (packets_at c.args.made.capture) l).is_stopped ≡ is_stopped how))
    c.as_slice.ensures.value
    c.tally-ended.ensures.ended))

pub returns-clause-text : goal.returns-clause-text
returns-clause-text g c = λ before is.
    let heading : c.as_bytes.result.now ≡ generated_line c.args.number = c.as_bytes.ensures.value ∙ c.in-Ok.ensures in
    subst (TextIs (Some (generated_done c.args.number c.args.made.topology c.args.made.lines.items (packets_at c.args.made.capture))) before
    (g.O.Sink.written c.tally-ended.new.out))
    (sym c.outcome_of.ensures)
    (tells c.args.number c.args.made.topology c.args.made.lines.items (packets_at c.args.made.capture) before _ c.tally-ended.result
    (subst (λ h. PutsWhole
    (total_text h c.args.made.topology (packets_at c.args.made.capture)
    (expanded c.args.made.topology (packets_at c.args.made.capture) c.args.made.lines.items))
    before (g.O.Sink.written c.tally-ended.new.out) c.tally-ended.result) heading
    (subst (λ l. PutsWhole
    (total_text c.as_bytes.result.now c.args.made.topology (packets_at c.args.made.capture)
    (expanded c.args.made.topology (packets_at c.args.made.capture) l))
    before (g.O.Sink.written c.tally-ended.new.out) c.tally-ended.result) c.as_slice.ensures.value (c.tally-ended.ensures.text before is))))

pub returns-clause-cause : goal.returns-clause-cause
returns-clause-cause g c =
    subst (SinkCausedBy (g.O.Sink.faults c.args.out.now) (g.O.Sink.faults c.tally-ended.new.out)) (sym c.outcome_of.ensures)
    (sink_blames _ _ c.tally-ended.result c.tally-ended.ensures.cause)
