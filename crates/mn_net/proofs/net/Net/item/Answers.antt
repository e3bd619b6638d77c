use Rattle.std.proofs.Common.{◌∙◌, ◌<◌, ◌*◌, arith, ap, sym, subst, length}
use Rattle.std.specs.Prelude.{◌/◌, ◌%◌, option_map}
use Rattle.std.specs.Option.{option_copied}
use Rattle.mn_net.proofs.Counts.{as_many_nodes}
use Rattle.mn_net.proofs.Nexts.{notices_on, pdus_on, messages_on, frames_on}
use Rattle.mn_net_laws.specs.Now.{NetNow, StandsFor}
use Rattle.mn_net.specs.declared.flight.Flying.{Flying}
use Rattle.mn_net.specs.Told.{Told, told_at}
use Rattle.mn_net.proofs.Asked.{parts_stand}
use Rattle.mn_net.proofs.Bytes.{notice_at, bgp_at}
use Rattle.mn_net.proofs.Pieces.{by_number, on_its, wider, told_as, notice_told, pdu_told, message_told, frame_told, none_told}
use Rattle.mn_net.proofs.net.Net.item.Goals as goal

pub notice-requires-clause-channel : goal.notice-requires-clause-channel
notice-requires-clause-channel c =
    let is = c.self.invariant c.if-self.false in
    let all = notices_on c.self.inside.topology c.laws.ensures c.self.inside.journal.items is.inputs c.self.inside.transport c.self.inside.routes
    c.self.inside.transit c.self.inside.tally (parts_stand _ is.inputs is.channels is.stands) in
    let there = on_its _ c.args.number c.self.inside.transport.notices c.in-Some.item.now all
    (ap (by_number c.args.number) (sym c.notices.ensures) ∙ sym c.get.ensures.value ∙ ap option_copied c.in-Some.is) in
    subst (λ n. c.in-Some.item.now.channel < 1024 * n) (sym (ap length c.nodes.ensures ∙ as_many_nodes c.self.inside.topology.loopbacks))
    (wider (length c.self.inside.topology.links) 1024 (length c.self.inside.topology.loopbacks) c.in-Some.item.now.channel c.laws.ensures.few_links there)

pub returns-in-Some-clause-told : goal.returns-in-Some-clause-told
returns-in-Some-clause-told c =
    λ ps h. told_as _ _ _ _ _ _ _ _ c.notice.ensures.kind
    (c.notice.ensures.channel ∙ ap (λ n. notice_at (c.in-Some.item.now.channel / n) (c.in-Some.item.now.channel % n))
    (ap length c.nodes.ensures ∙ as_many_nodes c.self.inside.topology.loopbacks)) c.notice.ensures.due c.notice.ensures.bytes
    ∙ notice_told _ c.laws.ensures ps (subst (λ (n : NetNow). StandsFor n ps) (sym c.self.view_is) h) c.args.number c.in-Some.item.now
    (ap (by_number c.args.number) (sym c.notices.ensures) ∙ sym c.get.ensures.value ∙ ap option_copied c.in-Some.is)
    ∙ ap (λ (n : NetNow). told_at n.topology n.journal ps c.args.number) c.self.view_is

pub pdu-requires : goal.pdu-requires
pdu-requires c =
    let is = c.self.invariant c.if-self.false in
    let all = pdus_on c.self.inside.topology c.laws.ensures c.self.inside.journal.items is.inputs c.self.inside.transport c.self.inside.routes
    c.self.inside.transit c.self.inside.tally (parts_stand _ is.inputs is.channels is.stands) in
    let there = on_its _ c.args.number c.self.inside.transport.messages c.in-Some-get.item.now all
    (ap (by_number c.args.number) (sym c.messages.ensures) ∙ sym c.get-2.ensures.value ∙ ap option_copied c.in-Some-get.is) in
    omega (arith, there, c.laws.ensures.few_links)

pub returns-in-Some-get-clause-told : goal.returns-in-Some-get-clause-told
returns-in-Some-get-clause-told c =
    λ ps h. told_as _ _ _ _ _ _ _ _ c.pdu.ensures.kind c.pdu.ensures.channel c.pdu.ensures.due c.pdu.ensures.bytes
    ∙ pdu_told _ c.laws.ensures ps (subst (λ (n : NetNow). StandsFor n ps) (sym c.self.view_is) h) c.args.number c.in-Some-get.item.now
    (ap (by_number c.args.number) (sym c.messages.ensures) ∙ sym c.get-2.ensures.value ∙ ap option_copied c.in-Some-get.is)
    ∙ ap (λ (n : NetNow). told_at n.topology n.journal ps c.args.number) c.self.view_is

pub message-requires-clause-channel : goal.message-requires-clause-channel
message-requires-clause-channel c =
    let is = c.self.invariant c.if-self.false in
    let all = messages_on c.self.inside.topology c.laws.ensures c.self.inside.journal.items is.inputs c.self.inside.transport c.self.inside.routes
    c.self.inside.transit c.self.inside.tally (parts_stand _ is.inputs is.channels is.stands) in
    let there = on_its _ c.args.number c.self.inside.routes.messages c.in-Some-get-2.item.now all
    (ap (by_number c.args.number) (sym c.messages-2.ensures) ∙ sym c.get-3.ensures.value ∙ ap option_copied c.in-Some-get-2.is) in
    subst (λ n. c.in-Some-get-2.item.now.channel < n * n) (sym (ap length c.nodes.ensures ∙ as_many_nodes c.self.inside.topology.loopbacks)) there

pub returns-in-Some-get-2-clause-told : goal.returns-in-Some-get-2-clause-told
returns-in-Some-get-2-clause-told c =
    λ ps h. told_as _ _ _ _ _ _ _ _ c.message.ensures.kind
    (c.message.ensures.channel ∙ ap (λ n. bgp_at (c.in-Some-get-2.item.now.channel / n) (c.in-Some-get-2.item.now.channel % n))
    (ap length c.nodes.ensures ∙ as_many_nodes c.self.inside.topology.loopbacks)) c.message.ensures.due c.message.ensures.bytes
    ∙ message_told _ c.laws.ensures ps (subst (λ (n : NetNow). StandsFor n ps) (sym c.self.view_is) h) c.args.number c.in-Some-get-2.item.now
    (ap (by_number c.args.number) (sym c.messages-2.ensures) ∙ sym c.get-3.ensures.value ∙ ap option_copied c.in-Some-get-2.is)
    ∙ ap (λ (n : NetNow). told_at n.topology n.journal ps c.args.number) c.self.view_is

pub returns-in_err-item-clause-told : goal.returns-in_err-item-clause-told
returns-in_err-item-clause-told c =
    λ ps h. ap (λ o. option_map (λ (flying : Flying). let told : Told =
    record { kind = flying.kind; channel = flying.channel; due = flying.due; bytes = flying.bytes.now } in told) o) c.from_residual.ensures
    ∙ none_told _ c.laws.ensures ps (subst (λ (n : NetNow). StandsFor n ps) (sym c.self.view_is) h) c.args.number
    (ap (by_number c.args.number) (sym c.notices.ensures) ∙ sym c.get.ensures.value ∙ ap option_copied c.in_default.is)
    (ap (by_number c.args.number) (sym c.messages.ensures) ∙ sym c.get-2.ensures.value ∙ ap option_copied c.in_default-get.is)
    (ap (by_number c.args.number) (sym c.messages-2.ensures) ∙ sym c.get-3.ensures.value ∙ ap option_copied c.in_default-get-2.is)
    (sym c.frame.ensures ∙ ap option_copied c.in_err-item.was)
    ∙ ap (λ (n : NetNow). told_at n.topology n.journal ps c.args.number) c.self.view_is

pub frame-requires-2 : goal.frame-requires-2
frame-requires-2 c =
    let is = c.self.invariant c.if-self.false in
    let all = frames_on c.self.inside.topology c.laws.ensures c.self.inside.journal.items is.inputs c.self.inside.transport c.self.inside.routes
    c.self.inside.transit c.self.inside.tally (parts_stand _ is.inputs is.channels is.stands) in
    let there = on_its _ c.args.number c.self.inside.transit.flying c.in_ok-item.item.now all
    (sym c.frame.ensures ∙ ap option_copied c.in_ok-item.was) in
    omega (arith, there, c.laws.ensures.few_links)

pub returns-clause-told : goal.returns-clause-told
returns-clause-told c =
    λ ps h. told_as _ _ _ _ _ _ _ _ c.frame-2.ensures.kind c.frame-2.ensures.channel c.frame-2.ensures.due c.frame-2.ensures.bytes
    ∙ frame_told _ c.laws.ensures ps (subst (λ (n : NetNow). StandsFor n ps) (sym c.self.view_is) h) c.args.number c.in_ok-item.item.now
    (sym c.frame.ensures ∙ ap option_copied c.in_ok-item.was)
    ∙ ap (λ (n : NetNow). told_at n.topology n.journal ps c.args.number) c.self.view_is
