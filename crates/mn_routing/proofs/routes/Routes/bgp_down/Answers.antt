use Rattle.mn_routing_laws.proofs.Turning.{may_end, nodes_end, did_end}
use Rattle.mn_routing.proofs.routes.Routes.bgp_down.Goals as goal

pub end-requires-clause-a : goal.end-requires-clause-a
end-requires-clause-a c =
    (nodes_end c.args.topology.now c.laws.ensures c.args.clock.tick c.args.clock.number c.args.clock.number c.args.self.now c.args.self.now c.args.a
    c.args.b c.requires.may).0

pub end-requires-clause-b : goal.end-requires-clause-b
end-requires-clause-b c =
    (nodes_end c.args.topology.now c.laws.ensures c.args.clock.tick c.args.clock.number c.args.clock.number c.args.self.now c.args.self.now c.args.a
    c.args.b c.requires.may).1

pub end-requires-clause-may : goal.end-requires-clause-may
end-requires-clause-may c =
    may_end c.args.topology.now c.laws.ensures c.args.clock.tick c.args.clock.number c.args.clock.number c.args.self.now c.args.self.now c.args.a c.args.b
    c.requires.may

pub returns : goal.returns
returns c = record {
  did =
      did_end c.args.topology.now c.laws.ensures c.args.clock.tick c.args.clock.number c.args.clock.number c.args.self.now c.end.new.self c.args.a c.args.b
      (may_end c.args.topology.now c.laws.ensures c.args.clock.tick c.args.clock.number c.args.clock.number c.args.self.now c.args.self.now c.args.a
      c.args.b c.requires.may) c.in_ok-end.ensures;
}
