use Rattle.std.proofs.Common.{◌≡◌, ◌∙◌, ◌+◌, ◌*◌, ap, sym, length}
use Rattle.std.specs.Prelude.{nat_le}
use Rattle.mn_ledger.specs.Packets.{channel}
use Rattle.mn_net.specs.Parts.{packed_of}
use Rattle.mn_net.proofs.Counts.{none_on, none_at, as_many_nodes}
use Rattle.mn_net_laws.specs.Refusal.{has_nothing}
use Rattle.mn_net.proofs.causes.has_nothing.Goals as goal

pub returns-in-Learn : goal.returns-in-Learn
returns-in-Learn c = λ made.
    none_on c.count.result c.pair.result (c.in-Learn.link.0 * length c.args.topology.now.loopbacks + c.in-Learn.node.0) c.notices.result.now.items
    c.args.transport.now.notices
    c.count.ensures.value
    (c.pair.ensures ∙ ap (λ n. c.in-Learn.link.0 * n + c.in-Learn.node.0) (ap length c.nodes-nodes.ensures ∙ as_many_nodes c.args.topology.now.loopbacks))
    c.notices.ensures
    ∙ ap (has_nothing c.args.topology.now (packed_of c.args.transport.now c.args.routes.now c.args.transit.now made)) (sym c.in-Learn.is)

pub returns-in-HearLdp : goal.returns-in-HearLdp
returns-in-HearLdp c = λ made.
    none_on c.count-in-HearLdp.result c.channel_of.result
    (channel c.in-HearLdp.link.0 c.in-HearLdp.dir) c.messages.result.now.items c.args.transport.now.messages
    c.count-in-HearLdp.ensures.value c.channel_of.ensures c.messages.ensures
    ∙ ap (has_nothing c.args.topology.now (packed_of c.args.transport.now c.args.routes.now c.args.transit.now made)) (sym c.in-HearLdp.is)

pub returns-in-HearBgp : goal.returns-in-HearBgp
returns-in-HearBgp c = λ made.
    none_on c.count-in-HearBgp.result c.pair-in-HearBgp.result
    (c.in-HearBgp.a.0 * length c.args.topology.now.loopbacks + c.in-HearBgp.b.0) c.messages-in-HearBgp.result.now.items
    c.args.routes.now.messages c.count-in-HearBgp.ensures.value
    (c.pair-in-HearBgp.ensures
    ∙ ap (λ n. c.in-HearBgp.a.0 * n + c.in-HearBgp.b.0) (ap length c.nodes-nodes.ensures ∙ as_many_nodes c.args.topology.now.loopbacks))
    c.messages-in-HearBgp.ensures
    ∙ ap (has_nothing c.args.topology.now (packed_of c.args.transport.now c.args.routes.now c.args.transit.now made)) (sym c.in-HearBgp.is)

pub returns-in-Carry : goal.returns-in-Carry
returns-in-Carry c = λ made.
    ap (nat_le c.flying.result) c.from.ensures
    ∙ none_at c.flying.result (channel c.in-Carry.link.0 c.in-Carry.dir) c.in-Carry.place c.args.transit.now.flying c.flying.ensures.counted
    ∙ ap (has_nothing c.args.topology.now (packed_of c.args.transport.now c.args.routes.now c.args.transit.now made)) (sym c.in-Carry.is)

pub returns-in-Lose : goal.returns-in-Lose
returns-in-Lose c = λ made.
    ap (nat_le c.flying-in-Lose.result) c.from-in-Lose.ensures
    ∙ none_at c.flying-in-Lose.result (channel c.in-Lose.link.0 c.in-Lose.dir) c.in-Lose.place c.args.transit.now.flying c.flying-in-Lose.ensures.counted
    ∙ ap (has_nothing c.args.topology.now (packed_of c.args.transport.now c.args.routes.now c.args.transit.now made)) (sym c.in-Lose.is)
