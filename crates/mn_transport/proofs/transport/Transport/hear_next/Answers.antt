use Rattle.std.proofs.Common.{rules, ℕ, ◌≡◌, ◌<◌, ◌∙◌, ◌++◌, sym, subst, arith, refl, length, map}
use Rattle.std.specs.Prelude.{Ok}
use Rattle.mn_lsr.specs.Said.{pdu_of}
use Rattle.mn_transport_laws.specs.Sending.{put_pdus}
use Rattle.std.specs.List.{All}
use Rattle.mn_wiring.specs.Wiring.{receiver}
use Rattle.mn_topo.specs.Network.{wiring_of}
use Rattle.mn_transport_laws.specs.Carried.{Carried}
use Rattle.mn_transport.specs.Inside.{carried_in}
use Rattle.mn_transport_laws.proofs.Acted.{session-lives, flies-next, heard-so, hears-on-links, hears-acts}
use Rattle.mn_transport_laws.proofs.Turned.{below-taken}
use Rattle.mn_transport.proofs.Few.{few_acted, hearer_has_numbers}
use Rattle.mn_transport.proofs.transport.Transport.hear_next.Goals as goal

pub hear_ldp-requires-clause-numbers : goal.hear_ldp-requires-clause-numbers
hear_ldp-requires-clause-numbers c =
    let at : c.from.result ≡ receiver (wiring_of c.args.topology.now) c.args.link.0 c.args.dir = c.from.ensures ∙ c.receiver-node.ensures.end in
    hearer_has_numbers c.args.topology.now (carried_in c.self.inside) c.args.self.now c.self.view_is c.args.link.0 c.args.dir c.requires.may.event
    c.requires.may.may c.from.result at
    c.index_mut-hearer.result.now c.index_mut-hearer.ensures.value

pub send-requires-clause-links : goal.send-requires-clause-links
send-requires-clause-links c =
    let at : c.from.result ≡ receiver (wiring_of c.args.topology.now) c.args.link.0 c.args.dir = c.from.ensures ∙ c.receiver-node.ensures.end in
    hears-on-links c.args.topology.now (carried_in c.self.inside) c.args.self.now c.self.view_is c.args.link.0 c.args.dir c.requires.may.event
    c.requires.may.may c.from.result at
    c.index_mut-hearer.result.now c.index_mut-hearer.ensures.value
    c.args.clock.tick c.channel_of.result c.take.result c.take.new.self.items c.in-Some.pdu c.as_slice.result.now c.hear_ldp.new.self c.in-Ok.out.items
    c.channel_of.ensures c.take.ensures.value c.take.ensures.items c.in-Some.is c.as_slice.ensures c.in-Ok.ensures.heard

pub send-requires-clause-number : goal.send-requires-clause-number
send-requires-clause-number c =
    below-taken c.take.result c.self.inside.messages.items c.take.new.self.items c.args.clock.number c.take.ensures.items
    (subst (λ (x : Carried). All (λ item. item.number < c.args.clock.number) x.messages) (sym c.self.view_is) c.requires.messages)

pub send-requires-clause-numbers : goal.send-requires-clause-numbers
send-requires-clause-numbers c =
    let at : c.from.result ≡ receiver (wiring_of c.args.topology.now) c.args.link.0 c.args.dir = c.from.ensures ∙ c.receiver-node.ensures.end in
    let acts =
    hears-acts c.args.topology.now (carried_in c.self.inside) c.args.self.now c.self.view_is c.args.link.0 c.args.dir c.requires.may.event c.requires.may.may
    c.from.result at
    c.index_mut-hearer.result.now c.index_mut-hearer.ensures.value
    c.args.clock.tick c.channel_of.result c.take.result c.take.new.self.items c.in-Some.pdu c.as_slice.result.now c.hear_ldp.new.self c.in-Ok.out.items
    c.channel_of.ensures c.take.ensures.value c.take.ensures.items c.in-Some.is c.as_slice.ensures c.in-Ok.ensures.heard
    {E = ℕ} 0 c.receiver-node.result.0
    (c.take.new.self.items ++ put_pdus (wiring_of c.args.topology.now) c.receiver-node.result.0 c.args.clock.tick 0 (map pdu_of c.in-Ok.out.items))
    (Ok (length c.in-Ok.out.items)) c.receiver-node.ensures.end
    c.in-Ok.ensures.others c.labels_fit.ensures c.in-Ok.ensures.table c.in-Ok.ensures.sites refl (omega arith) in
    let few =
    few_acted c.args.topology.now c.args.clock.tick 0 (receiver (wiring_of c.args.topology.now) c.args.link.0 c.args.dir) c.requires.may.event _ _
    (length c.in-Ok.out.items)
    c.laws.ensures acts in
    omega (arith, few, c.requires.numbers)

pub returns-clause-hears : goal.returns-clause-hears
returns-clause-hears c =
    let at : c.from.result ≡ receiver (wiring_of c.args.topology.now) c.args.link.0 c.args.dir = c.from.ensures ∙ c.receiver-node.ensures.end in
    λ event may. hears-acts c.args.topology.now (carried_in c.self.inside) c.args.self.now c.self.view_is c.args.link.0 c.args.dir event may c.from.result at
    c.index_mut-hearer.result.now c.index_mut-hearer.ensures.value
    c.args.clock.tick c.channel_of.result c.take.result c.take.new.self.items c.in-Some.pdu c.as_slice.result.now c.hear_ldp.new.self c.in-Ok.out.items
    c.channel_of.ensures c.take.ensures.value c.take.ensures.items c.in-Some.is c.as_slice.ensures c.in-Ok.ensures.heard
    c.args.clock.number c.receiver-node.result.0 c.send.new.messages.items c.send.result c.receiver-node.ensures.end
    c.in-Ok.ensures.others c.labels_fit.ensures c.in-Ok.ensures.table c.in-Ok.ensures.sites c.send.ensures.sent c.send.ensures.next

pub unreachable-requires-in-Err : goal.unreachable-requires-in-Err
unreachable-requires-in-Err c =
    let at : c.from.result ≡ receiver (wiring_of c.args.topology.now) c.args.link.0 c.args.dir = c.from.ensures ∙ c.receiver-node.ensures.end in
    let lives =
    session-lives c.args.topology.now (carried_in c.self.inside) c.args.self.now c.self.view_is c.args.link.0 c.args.dir c.requires.may.event c.requires.may.may
    c.from.result at
    c.index_mut-hearer.result.now c.index_mut-hearer.ensures.value in
    let next =
    flies-next c.args.topology.now (carried_in c.self.inside) c.args.self.now c.self.view_is c.args.link.0 c.args.dir c.requires.may.event c.requires.may.may
    c.from.result at
    c.index_mut-hearer.result.now c.index_mut-hearer.ensures.value c.channel_of.result c.take.result c.channel_of.ensures c.take.ensures.value in
    let heard =
    heard-so c.args.topology.now (carried_in c.self.inside) c.args.self.now c.self.view_is c.args.link.0 c.args.dir c.requires.may.event c.requires.may.may
    c.from.result at
    c.index_mut-hearer.result.now c.index_mut-hearer.ensures.value c.args.clock.tick c.in-Some.pdu c.as_slice.result.now (sym c.in-Some.is ∙ next)
    c.as_slice.ensures in
    let refused = c.in-Err.ensures.heard c.requires.may.may.session lives in
    search rules
