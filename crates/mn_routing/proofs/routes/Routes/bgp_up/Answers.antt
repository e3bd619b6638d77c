use Rattle.mn_routing_laws.proofs.Turning.{may_open, nodes_open, did_open}
use Rattle.mn_routing.proofs.routes.Routes.bgp_up.Goals as goal

pub open-requires-clause-a : goal.open-requires-clause-a
open-requires-clause-a c =
    (nodes_open c.args.topology.now c.laws.ensures c.args.clock.tick c.args.clock.number c.args.clock.number c.args.self.now c.args.self.now c.args.a
    c.args.b c.requires.may).0

pub open-requires-clause-b : goal.open-requires-clause-b
open-requires-clause-b c =
    (nodes_open c.args.topology.now c.laws.ensures c.args.clock.tick c.args.clock.number c.args.clock.number c.args.self.now c.args.self.now c.args.a
    c.args.b c.requires.may).1

pub open-requires-clause-may : goal.open-requires-clause-may
open-requires-clause-may c =
    may_open c.args.topology.now c.laws.ensures c.args.clock.tick c.args.clock.number c.args.clock.number c.args.self.now c.args.self.now c.args.a c.args.b
    c.requires.may

pub returns : goal.returns
returns c = record {
  did =
      did_open c.args.topology.now c.laws.ensures c.args.clock.tick c.args.clock.number c.in_ok-next.next c.args.self.now c.open.new.self c.args.a c.args.b
      c.in_ok-next.ensures;
}
