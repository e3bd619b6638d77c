use Rattle.mn_routing_laws.proofs.Enters.{looks_among}
use Rattle.mn_routing.proofs.routes.Routes.lookup_among.Goals as goal

pub returns : goal.returns
returns c =
    record {
      best =
          looks_among c.args.topology.now c.laws.ensures c.args.self.now c.args.vrf.0 c.requires.vrf c.args.address c.args.ways.now c.pe_of.result.now
          c.lookup_among.result c.pe_of.ensures c.lookup_among.ensures;
    }
