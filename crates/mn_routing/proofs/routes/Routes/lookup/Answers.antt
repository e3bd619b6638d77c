use Rattle.mn_routing_laws.proofs.Enters.{looks_up}
use Rattle.mn_routing.proofs.routes.Routes.lookup.Goals as goal

pub returns : goal.returns
returns c =
    record {
      best =
          looks_up c.args.topology.now c.laws.ensures c.args.self.now c.args.vrf.0 c.requires.vrf c.args.address c.pe_of.result.now c.lookup.result
          c.pe_of.ensures c.lookup.ensures;
    }
