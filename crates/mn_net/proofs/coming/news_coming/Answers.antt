use Rattle.std.proofs.Common.{ℕ, ◌≡◌, ◌∙◌, ◌<◌, ◌*◌, arith, ap, sym, subst, length, true, false, Some, None}
use Rattle.std.specs.Option.{option_copied}
use Rattle.mn_flight.specs.Earliest.{earliest}
use Rattle.mn_timetable_laws.specs.Keys.{key_of, keys_in}
use Rattle.mn_net_laws.specs.Coming.{hears_on, tells_on, as_coming, news_coming}
use Rattle.mn_net.proofs.Counts.{as_many_nodes}
use Rattle.mn_net.proofs.Nexts.{news_by, news_none, first_on, both_none, other_alone, one_alone, first_news}
use Rattle.mn_net.proofs.coming.news_coming.Goals as goal

pub returns-in_err-message : goal.returns-in_err-message
returns-in_err-message c =
    c.from_residual.ensures
    ∙ both_none (news_coming hears_on c.args.limit (keys_in c.args.transport.now.messages))
    (news_coming (tells_on (length c.args.topology.now.loopbacks)) c.args.limit (keys_in c.args.routes.now.messages))
    (news_none hears_on c.args.limit c.args.transport.now.messages (ap (earliest c.args.limit) (sym c.messages.ensures) ∙ sym c.earliest.ensures.value
    ∙ ap option_copied c.in_default.is))
    (news_none (tells_on (length c.args.topology.now.loopbacks)) c.args.limit c.args.routes.now.messages
    (ap (earliest c.args.limit) (sym c.messages-in_default.ensures) ∙ sym c.earliest-in_default.ensures.value ∙ ap option_copied c.in_err-message.was))

pub message_coming-requires-clause-channel : goal.message_coming-requires-clause-channel
message_coming-requires-clause-channel c =
    subst (λ n. c.in_ok-message.message.now.channel < n * n) (sym (ap length c.nodes.ensures ∙ as_many_nodes c.args.topology.now.loopbacks))
    (first_on ((length c.args.topology.now.loopbacks) * (length c.args.topology.now.loopbacks)) c.args.limit c.args.routes.now.messages
    c.in_ok-message.message.now c.requires.messages (ap (earliest c.args.limit) (sym c.messages-in_default.ensures)
    ∙ sym c.earliest-in_default.ensures.value ∙ ap option_copied c.in_ok-message.was))

pub returns-in_default : goal.returns-in_default
returns-in_default c =
    ap Some c.message_coming.ensures ∙ ap (λ n. Some (as_coming (tells_on n) (λ number. false) (key_of c.in_ok-message.message.now)))
    (ap length c.nodes.ensures ∙ as_many_nodes c.args.topology.now.loopbacks)
    ∙ news_by (tells_on (length c.args.topology.now.loopbacks)) c.args.limit c.args.routes.now.messages c.in_ok-message.message.now
    (ap (earliest c.args.limit) (sym c.messages-in_default.ensures) ∙ sym c.earliest-in_default.ensures.value ∙ ap option_copied c.in_ok-message.was)
    ∙ other_alone (news_coming hears_on c.args.limit (keys_in c.args.transport.now.messages))
    (news_coming (tells_on (length c.args.topology.now.loopbacks)) c.args.limit (keys_in c.args.routes.now.messages))
    (news_none hears_on c.args.limit c.args.transport.now.messages (ap (earliest c.args.limit) (sym c.messages.ensures) ∙ sym c.earliest.ensures.value
    ∙ ap option_copied c.in_default.is))

pub pdu_coming-requires : goal.pdu_coming-requires
pdu_coming-requires c =
    let on : c.in-Some.pdu.now.channel < 2 * length c.args.topology.now.links =
    first_on (2 * length c.args.topology.now.links) c.args.limit c.args.transport.now.messages c.in-Some.pdu.now c.requires.pdus
    (ap (earliest c.args.limit) (sym c.messages.ensures) ∙ sym c.earliest.ensures.value ∙ ap option_copied c.in-Some.is) in
    omega (arith, on, c.laws.ensures.few_links)

pub returns-in_default-earliest : goal.returns-in_default-earliest
returns-in_default-earliest c =
    ap Some c.pdu_coming.ensures
    ∙ one_alone (news_coming hears_on c.args.limit (keys_in c.args.transport.now.messages))
    (news_coming (tells_on (length c.args.topology.now.loopbacks)) c.args.limit (keys_in c.args.routes.now.messages))
    (as_coming hears_on (λ number. false) (key_of c.in-Some.pdu.now))
    (news_by hears_on c.args.limit c.args.transport.now.messages c.in-Some.pdu.now (ap (earliest c.args.limit) (sym c.messages.ensures)
    ∙ sym c.earliest.ensures.value ∙ ap option_copied c.in-Some.is))
    (news_none (tells_on (length c.args.topology.now.loopbacks)) c.args.limit c.args.routes.now.messages
    (ap (earliest c.args.limit) (sym c.messages-2.ensures) ∙ sym c.earliest-2.ensures.value ∙ ap option_copied c.in_default-earliest.is))

pub message_coming-requires-then-is_due_before-clause-channel : goal.message_coming-requires-then-is_due_before-clause-channel
message_coming-requires-then-is_due_before-clause-channel c =
    subst (λ n. c.in-Some-earliest.message.now.channel < n * n) (sym (ap length c.nodes.ensures ∙ as_many_nodes c.args.topology.now.loopbacks))
    (first_on ((length c.args.topology.now.loopbacks) * (length c.args.topology.now.loopbacks)) c.args.limit c.args.routes.now.messages
    c.in-Some-earliest.message.now c.requires.messages (ap (earliest c.args.limit) (sym c.messages-2.ensures) ∙ sym c.earliest-2.ensures.value
    ∙ ap option_copied c.in-Some-earliest.is))

pub returns-then-is_due_before : goal.returns-then-is_due_before
returns-then-is_due_before c =
    ap Some c.message_coming-then-is_due_before.ensures ∙ ap (λ n. Some (as_coming (tells_on n) (λ number. false) (key_of c.in-Some-earliest.message.now)))
    (ap length c.nodes.ensures ∙ as_many_nodes c.args.topology.now.loopbacks)
    ∙ first_news (length c.args.topology.now.loopbacks) c.args.limit c.args.transport.now.messages c.args.routes.now.messages c.in-Some.pdu.now
    c.in-Some-earliest.message.now true (ap (earliest c.args.limit) (sym c.messages.ensures) ∙ sym c.earliest.ensures.value ∙ ap option_copied c.in-Some.is)
    (ap (earliest c.args.limit) (sym c.messages-2.ensures) ∙ sym c.earliest-2.ensures.value ∙ ap option_copied c.in-Some-earliest.is)
    (sym c.is_due_before.ensures ∙ c.if-is_due_before.true)

pub pdu_coming-requires-2 : goal.pdu_coming-requires-2
pdu_coming-requires-2 c =
    let on : c.in-Some.pdu.now.channel < 2 * length c.args.topology.now.links =
    first_on (2 * length c.args.topology.now.links) c.args.limit c.args.transport.now.messages c.in-Some.pdu.now c.requires.pdus
    (ap (earliest c.args.limit) (sym c.messages.ensures) ∙ sym c.earliest.ensures.value ∙ ap option_copied c.in-Some.is) in
    omega (arith, on, c.laws.ensures.few_links)

pub returns : goal.returns
returns c =
    ap Some c.pdu_coming-2.ensures
    ∙ first_news (length c.args.topology.now.loopbacks) c.args.limit c.args.transport.now.messages c.args.routes.now.messages c.in-Some.pdu.now
    c.in-Some-earliest.message.now false (ap (earliest c.args.limit) (sym c.messages.ensures) ∙ sym c.earliest.ensures.value ∙ ap option_copied c.in-Some.is)
    (ap (earliest c.args.limit) (sym c.messages-2.ensures) ∙ sym c.earliest-2.ensures.value ∙ ap option_copied c.in-Some-earliest.is)
    (sym c.is_due_before.ensures ∙ c.if-is_due_before.false)
