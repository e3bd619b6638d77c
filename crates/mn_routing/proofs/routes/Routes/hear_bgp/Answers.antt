use Rattle.mn_routing_laws.proofs.HearsNext.{can_hear, nodes_hear, did_hear}
use Rattle.mn_routing.proofs.routes.Routes.hear_bgp.Goals as goal

pub hear_next-requires-clause-peer : goal.hear_next-requires-clause-peer
hear_next-requires-clause-peer c =
    (nodes_hear c.args.topology.now c.laws.ensures c.args.a c.args.b c.args.self.now c.requires.may).0

pub hear_next-requires-clause-edge : goal.hear_next-requires-clause-edge
hear_next-requires-clause-edge c =
    (nodes_hear c.args.topology.now c.laws.ensures c.args.a c.args.b c.args.self.now c.requires.may).1

pub hear_next-requires-clause-may : goal.hear_next-requires-clause-may
hear_next-requires-clause-may c =
    can_hear c.args.topology.now c.laws.ensures c.args.a c.args.b c.args.self.now c.requires.may

pub returns : goal.returns
returns c = record {
  did =
      did_hear c.args.topology.now c.laws.ensures c.args.clock.tick c.args.clock.number c.in_ok-next.next c.args.self.now c.hear_next.new.self c.args.a c.args.b
      c.in_ok-next.ensures.flight.0 c.in_ok-next.ensures.flight.1 c.in_ok-next.ensures.hears;
}
