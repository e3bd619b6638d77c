use Rattle.std.proofs.Common.{arith}
use Rattle.mn_node.specs.Machine.{Opens}
use Rattle.mn_transport_laws.specs.Carried.{Carried}
use Rattle.mn_transport.specs.Inside.{carried_in}
use Rattle.mn_transport_laws.proofs.Acted.{becomes-open, out-on-links, acted}
use Rattle.mn_transport.proofs.Few.{few_out, said_in, has_numbers}
use Rattle.mn_transport.proofs.transport.Transport.open.Goals as goal

pub open-requires-clause-numbers : goal.open-requires-clause-numbers
open-requires-clause-numbers c =
    let old : Carried = carried_in c.self.inside in
    has_numbers c.args.topology.now old c.args.self.now c.self.view_is c.args.end.0 (Opens c.args.link.0) c.requires.may c.from.result c.from.ensures
    c.index_mut.result.now c.index_mut.ensures.value

pub send-requires-clause-links : goal.send-requires-clause-links
send-requires-clause-links c =
    let old : Carried = carried_in c.self.inside in
    out-on-links c.args.topology.now old c.args.self.now c.self.view_is c.args.end.0
    (Opens c.args.link.0) c.requires.may c.from.result c.from.ensures c.index_mut.result.now c.index_mut.ensures.value
    c.args.clock.tick c.in_ok-out.out.items
    (said_in c.args.clock.tick (Opens c.args.link.0) c.index_mut.result.now c.open.new.self c.in_ok-out.out.items (c.in_ok-out.ensures.labels c.args.clock.tick)
    c.in_ok-out.ensures.said)

pub send-requires-clause-numbers : goal.send-requires-clause-numbers
send-requires-clause-numbers c =
    let old : Carried = carried_in c.self.inside in
    let few =
    few_out c.args.topology.now old c.args.self.now c.self.view_is c.args.end.0 (Opens c.args.link.0) c.requires.may c.from.result c.from.ensures
    c.index_mut.result.now c.index_mut.ensures.value c.args.clock.tick c.open.new.self c.in_ok-out.out.items c.laws.ensures
    (becomes-open c.args.clock.tick (Opens c.args.link.0) c.index_mut.result.now c.open.new.self c.in_ok-out.ensures.after
    (c.in_ok-out.ensures.labels c.args.clock.tick) (c.in_ok-out.ensures.resting c.args.clock.tick) c.in_ok-out.ensures.table)
    (said_in c.args.clock.tick (Opens c.args.link.0) c.index_mut.result.now c.open.new.self c.in_ok-out.out.items (c.in_ok-out.ensures.labels c.args.clock.tick)
    c.in_ok-out.ensures.said) in
    omega (arith, few, c.requires.numbers)

pub returns-clause-acts : goal.returns-clause-acts
returns-clause-acts c =
    let old : Carried = carried_in c.self.inside in
    acted c.args.topology.now old c.args.self.now c.self.view_is c.args.end.0
    (Opens c.args.link.0) c.requires.may c.from.result c.from.ensures c.index_mut.result.now c.index_mut.ensures.value
    c.args.clock.tick c.args.clock.number c.open.new.self c.in_ok-out.out.items c.send.new.messages.items c.send.result
    (becomes-open c.args.clock.tick (Opens c.args.link.0) c.index_mut.result.now c.open.new.self c.in_ok-out.ensures.after
    (c.in_ok-out.ensures.labels c.args.clock.tick) (c.in_ok-out.ensures.resting c.args.clock.tick) c.in_ok-out.ensures.table)
    (said_in c.args.clock.tick (Opens c.args.link.0) c.index_mut.result.now c.open.new.self c.in_ok-out.out.items (c.in_ok-out.ensures.labels c.args.clock.tick)
    c.in_ok-out.ensures.said) c.send.ensures.sent c.send.ensures.next
