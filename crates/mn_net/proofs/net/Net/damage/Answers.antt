use Rattle.std.proofs.Common.{◌≡◌, ◌∙◌, [], false, sym, ap, subst}
use Rattle.std.proofs.lemmas.Result.{err_from_is_err_and}
use Rattle.mn_topo.specs.Steps.{fits}
use Rattle.mn_ledger.specs.Refusal.{refusal}
use Rattle.mn_damage.specs.Refusals.{damage_refusal}
use Rattle.mn_net_laws.specs.Now.{NetNow, StandsFor}
use Rattle.mn_net_laws.proofs.Refused.{refused_so}
use Rattle.mn_net_laws.proofs.Means.{labels_mean}
use Rattle.mn_net.specs.declared.net.Done.{Done}
use Rattle.mn_net.proofs.Damages.{reads_next, rest_last, ending_fits, ended_so}
use Rattle.mn_net.proofs.net.Net.damage.Goals as goal

pub returns-then-reads-clause-answer : goal.returns-then-reads-clause-answer
returns-then-reads-clause-answer c = λ ps h.
    let now = c.args.self.now in
    reads_next now.topology now.journal ps c.args.damage c.args.packet.now (c.has_no_message.ensures.one c.if-has_no_message.false ps h)
    (sym c.in-Ok.ensures.reads ∙ c.if-reads.true)

pub returns-in_err-refusal-clause-answer : goal.returns-in_err-refusal-clause-answer
returns-in_err-refusal-clause-answer c = λ ps h.
    let now = c.args.self.now in
    let handed = err_from_is_err_and c.from_residual.result c.from_residual.ensures.1 in
    let last = rest_last now.topology now.journal ps c.args.damage c.args.packet.now (c.has_no_message.ensures.one c.if-has_no_message.false ps h)
    (sym c.in-Ok.ensures.reads ∙ c.if-reads.false) in
    let why = ap (λ s. refusal now.topology now.journal ps s []) (sym c.ending-step.ensures) ∙ c.in_err-refusal.ensures.exact ps h in
    rw (handed.1, handed.2) (refused_so Done (damage_refusal now.topology now.journal ps c.args.damage c.args.packet.now) c.in_err-refusal.field-0.0 (last
    ∙ why))

pub perform-requires : goal.perform-requires
perform-requires c =
    let now = c.args.self.now in
    let is = c.self.invariant c.if-self.false in
    let h = subst (λ (n : NetNow). StandsFor n is.inputs) c.self.view_is is.stands in
    let last = rest_last now.topology now.journal is.inputs c.args.damage c.args.packet.now (c.has_no_message.ensures.one c.if-has_no_message.false is.inputs h)
    (sym c.in-Ok.ensures.reads ∙ c.if-reads.false) in
    let free = ap (λ s. refusal now.topology now.journal is.inputs s []) (sym c.ending-step.ensures) ∙ c.in_ok-refusal.ensures.exact is.inputs h in
    record {
      may = record {
        works = subst (λ (n : NetNow). n.failed ≡ false) c.self.view_is c.if-self.false;
        fitting = ap (λ s. fits now.topology s) c.ending-step.ensures
            ∙ ending_fits now.topology now.journal is.inputs c.args.damage c.args.packet.now c.requires.fits (last ∙ free);
        unrefused = λ ps g. c.in_ok-refusal.ensures.exact ps g;
      };
    }

pub returns-clause-answer : goal.returns-clause-answer
returns-clause-answer c = λ ps h.
    let now = c.args.self.now in
    rest_last now.topology now.journal ps c.args.damage c.args.packet.now (c.has_no_message.ensures.one c.if-has_no_message.false ps h)
    (sym c.in-Ok.ensures.reads ∙ c.if-reads.false)
    ∙ ap (λ s. refusal now.topology now.journal ps s []) (sym c.ending-step.ensures) ∙ c.in_ok-refusal.ensures.exact ps h

pub returns-clause-longer : goal.returns-clause-longer
returns-clause-longer c = (ended_so _ _ _ c.args.damage _ _ c.ending-step.ensures c.mark.ensures c.in-Ok-perform.ensures.done c.mark_last.ensures.marked).0

pub returns-clause-stands : goal.returns-clause-stands
returns-clause-stands c = (ended_so _ _ _ c.args.damage _ _ c.ending-step.ensures c.mark.ensures c.in-Ok-perform.ensures.done c.mark_last.ensures.marked).1

pub returns-clause-labels : goal.returns-clause-labels
returns-clause-labels c = λ ps h. labels_mean _ ps h

pub returns-then-reads-clause-refused : goal.returns-then-reads-clause-refused
returns-then-reads-clause-refused c = λ works ps h e. absurd (c.has_no_message.ensures.one c.if-has_no_message.false ps h e)

pub returns-in_err-refusal-clause-refused : goal.returns-in_err-refusal-clause-refused
returns-in_err-refusal-clause-refused c = λ works ps h e. absurd (c.has_no_message.ensures.one c.if-has_no_message.false ps h e)

pub returns-clause-refused : goal.returns-clause-refused
returns-clause-refused c = λ works ps h e. absurd (c.has_no_message.ensures.one c.if-has_no_message.false ps h e)
