use Rattle.std.proofs.Common.{◌∙◌, refl, subst}
use Rattle.mn_ledger.specs.Ledger.{world_of, packets_of}
use Rattle.mn_ledger.proofs.Refusals.{never_for_memory}
use Rattle.std.proofs.Common.{length, ◌≡◌, sym, Option, Err}
use Rattle.std.specs.Prelude.{IfSome}
use Rattle.mn_ledger.specs.declared.refused.Refused.{Refused}
use Rattle.std.proofs.lemmas.Result.{err_from_is_err_and}
use Rattle.mn_net_laws.specs.Now.{NetNow, StandsFor}
use Rattle.mn_net.specs.declared.net.Done.{Done}
use Rattle.mn_net_laws.proofs.Refused.{left_so}
use Rattle.mn_net_laws.proofs.Means.{labels_mean}
use Rattle.mn_net.proofs.net.Net.step.Goals as goal

pub returns-in_err-refusal-clause-left : goal.returns-in_err-refusal-clause-left
returns-in_err-refusal-clause-left c = λ works.
    let is = c.self.invariant c.if-self.false in
    let now = c.args.self.now in
    let exact = c.in_err-refusal.ensures.exact is.inputs (subst (λ (n : NetNow). StandsFor n is.inputs) c.self.view_is is.stands) in
    let handed = err_from_is_err_and c.from_residual.result c.from_residual.ensures.1 in
    rw (handed.1, handed.2)
    (left_so Done now now c.in_err-refusal.field-0.0
    (λ e. never_for_memory now.topology (world_of now.topology now.journal) (packets_of now.topology now.journal is.inputs)
    (length now.journal) c.args.step c.args.packet.now (exact ∙ e)) refl)

pub returns-clause-stands : goal.returns-clause-stands
returns-clause-stands c = λ ps h. c.in-Ok.ensures.done.stands ps h

pub returns-clause-labels : goal.returns-clause-labels
returns-clause-labels c = λ ps h. labels_mean _ ps h

pub returns-in_err-refusal-clause-refused : goal.returns-in_err-refusal-clause-refused
returns-in_err-refusal-clause-refused c = λ works ps h.
    let handed = err_from_is_err_and c.from_residual.result c.from_residual.ensures.1 in
    subst (λ (cause : Option Refused). IfSome cause (λ why. c.from_residual.result ≡ Err why)) (sym (c.in_err-refusal.ensures.exact ps h))
    (rw (handed.1, handed.2) refl)
