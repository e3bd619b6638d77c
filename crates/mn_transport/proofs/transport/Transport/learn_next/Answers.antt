use Rattle.std.proofs.Common.{◌≡◌, subst, arith}
use Rattle.mn_flight.specs.Flying.{IsFlight}
use Rattle.mn_node.specs.Machine.{Learns}
use Rattle.mn_transport_laws.specs.Carried.{Carried}
use Rattle.mn_transport.specs.Inside.{carried_in}
use Rattle.mn_transport_laws.specs.Doing.{noticed}
use Rattle.mn_transport_laws.proofs.Acted.{becomes-by, out-on-links, acted, noticed-is, may-noticed}
use Rattle.mn_transport_laws.proofs.Turned.{always}
use Rattle.mn_transport.proofs.Few.{few_out, said_in, has_numbers}
use Rattle.mn_transport.proofs.transport.Transport.learn_next.Goals as goal

pub learn-requires-clause-numbers : goal.learn-requires-clause-numbers
learn-requires-clause-numbers c =
    let old : Carried = carried_in c.self.inside in
    let taken : Carried = record old { notices = c.take.new.self.items } in
    let is : taken ≡ noticed c.args.topology.now c.args.node.0 c.args.link.0 c.args.self.now =
    noticed-is c.args.topology.now old c.args.self.now c.args.node.0 c.args.link.0 c.channel_to.result c.take.new.self.items c.take.result c.self.view_is
    c.channel_to.ensures c.take.ensures.value c.take.ensures.items in
    has_numbers c.args.topology.now taken (noticed c.args.topology.now c.args.node.0 c.args.link.0 c.args.self.now) is c.args.node.0 (Learns c.args.link.0)
    (may-noticed c.args.topology.now c.args.self.now c.args.node.0 c.args.link.0 c.args.link.0 c.requires.may) c.from.result c.from.ensures
    c.index_mut-learner.result.now c.index_mut-learner.ensures.value

pub send-requires-clause-links : goal.send-requires-clause-links
send-requires-clause-links c =
    let old : Carried = carried_in c.self.inside in
    let taken : Carried = record old { notices = c.take.new.self.items } in
    let is : taken ≡ noticed c.args.topology.now c.args.node.0 c.args.link.0 c.args.self.now =
    noticed-is c.args.topology.now old c.args.self.now c.args.node.0 c.args.link.0 c.channel_to.result c.take.new.self.items c.take.result c.self.view_is
    c.channel_to.ensures c.take.ensures.value c.take.ensures.items in
    out-on-links c.args.topology.now taken (noticed c.args.topology.now c.args.node.0 c.args.link.0 c.args.self.now) is c.args.node.0 (Learns c.args.link.0)
    (may-noticed c.args.topology.now c.args.self.now c.args.node.0 c.args.link.0 c.args.link.0 c.requires.may) c.from.result c.from.ensures
    c.index_mut-learner.result.now c.index_mut-learner.ensures.value c.args.clock.tick c.in-Ok.out.items
    (said_in c.args.clock.tick (Learns c.args.link.0) c.index_mut-learner.result.now c.learn.new.self c.in-Ok.out.items c.in-Ok.ensures.labels
    c.in-Ok.ensures.said)

pub send-requires-clause-numbers : goal.send-requires-clause-numbers
send-requires-clause-numbers c =
    let old : Carried = carried_in c.self.inside in
    let taken : Carried = record old { notices = c.take.new.self.items } in
    let is : taken ≡ noticed c.args.topology.now c.args.node.0 c.args.link.0 c.args.self.now =
    noticed-is c.args.topology.now old c.args.self.now c.args.node.0 c.args.link.0 c.channel_to.result c.take.new.self.items c.take.result c.self.view_is
    c.channel_to.ensures c.take.ensures.value c.take.ensures.items in
    let few =
    few_out c.args.topology.now taken (noticed c.args.topology.now c.args.node.0 c.args.link.0 c.args.self.now) is c.args.node.0 (Learns c.args.link.0)
    (may-noticed c.args.topology.now c.args.self.now c.args.node.0 c.args.link.0 c.args.link.0 c.requires.may) c.from.result c.from.ensures
    c.index_mut-learner.result.now c.index_mut-learner.ensures.value c.args.clock.tick c.learn.new.self c.in-Ok.out.items c.laws.ensures
    (becomes-by c.args.clock.tick (Learns c.args.link.0) c.index_mut-learner.result.now c.learn.new.self c.in-Ok.ensures.after c.in-Ok.ensures.labels
    c.in-Ok.ensures.resting c.labels_fit.ensures c.in-Ok.ensures.table c.in-Ok.ensures.sites)
    (said_in c.args.clock.tick (Learns c.args.link.0) c.index_mut-learner.result.now c.learn.new.self c.in-Ok.out.items c.in-Ok.ensures.labels
    c.in-Ok.ensures.said) in
    omega (arith, few, c.requires.numbers)

pub returns-clause-learns : goal.returns-clause-learns
returns-clause-learns c =
    let old : Carried = carried_in c.self.inside in
    let taken : Carried = record old { notices = c.take.new.self.items } in
    let is : taken ≡ noticed c.args.topology.now c.args.node.0 c.args.link.0 c.args.self.now =
    noticed-is c.args.topology.now old c.args.self.now c.args.node.0 c.args.link.0 c.channel_to.result c.take.new.self.items c.take.result c.self.view_is
    c.channel_to.ensures c.take.ensures.value c.take.ensures.items in
    acted c.args.topology.now taken (noticed c.args.topology.now c.args.node.0 c.args.link.0 c.args.self.now) is c.args.node.0 (Learns c.args.link.0)
    (may-noticed c.args.topology.now c.args.self.now c.args.node.0 c.args.link.0 c.args.link.0 c.requires.may) c.from.result c.from.ensures
    c.index_mut-learner.result.now c.index_mut-learner.ensures.value
    c.args.clock.tick c.args.clock.number c.learn.new.self c.in-Ok.out.items c.send.new.messages.items c.send.result
    (becomes-by c.args.clock.tick (Learns c.args.link.0) c.index_mut-learner.result.now c.learn.new.self c.in-Ok.ensures.after c.in-Ok.ensures.labels
    c.in-Ok.ensures.resting c.labels_fit.ensures c.in-Ok.ensures.table c.in-Ok.ensures.sites)
    (said_in c.args.clock.tick (Learns c.args.link.0) c.index_mut-learner.result.now c.learn.new.self c.in-Ok.out.items c.in-Ok.ensures.labels
    c.in-Ok.ensures.said) c.send.ensures.sent c.send.ensures.next

pub returns-clause-flight : goal.returns-clause-flight
returns-clause-flight c =
    always c.send.result (
      c.self.inside.notices.channels,
      subst (λ (x : Carried). IsFlight c.self.inside.notices.channels x.notices) c.self.view_is
          c.self.invariant.notices_fly,
    )
