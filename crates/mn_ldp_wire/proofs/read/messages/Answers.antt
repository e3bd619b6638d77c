use Rattle.std.proofs.Common.{ap, sym, ◌∙◌, Ok, Some, None, Option}
use Rattle.std.proofs.lemmas.List.{append-nil}
use Rattle.std.proofs.lemmas.Bool.{eqb-true, eqb-false}
use Rattle.std.proofs.lemmas.Result.{err_from_is_err_and}
use Rattle.mn_ldp_wire.specs.declared.message.LdpMessage.{LdpMessage}
use Rattle.mn_ldp_wire.proofs.InOrder.{message_shorter, front_more, front_bad, front_done, held_ok, not_zero}
use Rattle.mn_ldp_wire.proofs.read.messages.Goals as goal

pub returns-in_err-message : goal.returns-in_err-message
returns-in_err-message c =
    let f = err_from_is_err_and c.from_residual.result c.from_residual.ensures.1 in
    rw (f.1, f.2)
    (front_bad c.messages.messages c.messages.rest c.in_err-message.field-0.0 _
    (not_zero _ (eqb-false _ _ (sym c.messages-test.ensures))) c.in_err-message.ensures c.messages.invariant)

pub messages-smaller-in-Continue-branch-3 : goal.messages-smaller-in-Continue-branch-3
messages-smaller-in-Continue-branch-3 c = message_shorter c.messages.rest c.message_at.new.rest c.in_ok-message.field-0 c.in_ok-message.ensures

pub messages-preserved-in-Continue-branch-3 : goal.messages-preserved-in-Continue-branch-3
messages-preserved-in-Continue-branch-3 c =
    front_more c.messages.messages c.push.new.self c.messages.rest c.message_at.new.rest (Some c.in-Some.message) _
    (c.in_ok-message.ensures ∙ ap (λ (x : Option LdpMessage). Ok (x, c.message_at.new.rest)) c.in-Some.is)
    (held_ok c.push.result (sym c.in_ok-map_err.ensures.variant) c.push.ensures.ok) c.messages.invariant

pub messages-smaller : goal.messages-smaller
messages-smaller c = message_shorter c.messages.rest c.message_at.new.rest c.in_ok-message.field-0 c.in_ok-message.ensures

pub messages-preserved : goal.messages-preserved
messages-preserved c =
    front_more c.messages.messages c.messages.messages c.messages.rest c.message_at.new.rest None _
    (c.in_ok-message.ensures ∙ ap (λ (x : Option LdpMessage). Ok (x, c.message_at.new.rest)) c.in_default.is)
    (sym (append-nil c.messages.messages)) c.messages.invariant

pub returns : goal.returns
returns c = front_done c.messages.messages c.messages.rest _ (eqb-true _ _ (sym c.messages-test.ensures)) c.messages.invariant
