use Rattle.mn_routing_laws.proofs.Can.{may_import, vrf_named}
use Rattle.mn_routing_laws.proofs.Import.{did_import}
use Rattle.mn_routing.proofs.routes.Routes.import.Goals as goal

pub set_import-requires-clause-vrf : goal.set_import-requires-clause-vrf
set_import-requires-clause-vrf c =
    vrf_named c.args.topology.now c.args.vrf c.args.target c.args.on c.args.self.now c.requires.may

pub set_import-requires-clause-may : goal.set_import-requires-clause-may
set_import-requires-clause-may c =
    may_import c.args.topology.now c.laws.ensures c.args.self.now c.args.vrf c.args.target c.args.on c.requires.may

pub returns : goal.returns
returns c = record {
  did =
      did_import c.args.topology.now c.laws.ensures c.args.clock.tick c.args.clock.number c.args.self.now c.set_import.new.self c.args.vrf c.args.target
      c.args.on c.in_ok-set_import.ensures;
}
