use Rattle.std.proofs.Common.{◌∙◌, ap, subst, length}
use Rattle.std.specs.Prelude.{Some}
use Rattle.mn_answer.specs.Answer.{refusal_of}
use Rattle.mn_answer.specs.Endings.{OutcomeIs, TextIs}
use Rattle.mn_reach_run.proofs.Endings.{few_told, many_refused}
use Rattle.mn_reach_run.proofs.run.reach_lines.Goals as goal

pub returns-in-Ok-Some-clause-outcome : goal.returns-in-Ok-Some-clause-outcome
returns-in-Ok-Some-clause-outcome g c =
    let found = rw c.in-Ok-Some.field-0-is at c.in-Ok-Some.ensures in
    subst (λ a. OutcomeIs (Some a) c.reach_pairs.result)
    (few_told c.args.topology.now c.args.lines.now (length c.in-Ok-Some.pairs.items) (ap length found.0) found.1) c.reach_pairs.ensures.outcome

pub returns-in-Ok-Some-clause-text : goal.returns-in-Ok-Some-clause-text
returns-in-Ok-Some-clause-text g c = λ before is.
    let found = rw c.in-Ok-Some.field-0-is at c.in-Ok-Some.ensures in
    subst (λ a. TextIs (Some a) before (g.O.Sink.written c.reach_pairs.new.out) c.reach_pairs.result)
    (few_told c.args.topology.now c.args.lines.now (length c.in-Ok-Some.pairs.items) (ap length found.0) found.1) (c.reach_pairs.ensures.text before is)

pub returns-in-Ok-None-clause-outcome : goal.returns-in-Ok-None-clause-outcome
returns-in-Ok-None-clause-outcome g c =
    let many = rw c.in-Ok-None.field-0-is at c.in-Ok-None.ensures in
    subst (λ a. OutcomeIs (Some a) c.refuse.result) (ap refusal_of c.too_large.ensures ∙ many_refused c.args.topology.now c.args.lines.now many)
    c.refuse.ensures.outcome

pub returns-in-Ok-None-clause-text : goal.returns-in-Ok-None-clause-text
returns-in-Ok-None-clause-text g c = λ before is.
    let many = rw c.in-Ok-None.field-0-is at c.in-Ok-None.ensures in
    subst (λ a. TextIs (Some a) before (g.O.Sink.written c.refuse.new.out) c.refuse.result)
    (ap refusal_of c.too_large.ensures ∙ many_refused c.args.topology.now c.args.lines.now many) (c.refuse.ensures.text before is)
