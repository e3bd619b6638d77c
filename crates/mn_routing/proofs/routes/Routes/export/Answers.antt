use Rattle.mn_routing_laws.proofs.Can.{may_export}
use Rattle.mn_routing.proofs.routes.Routes.export.Goals as goal

pub set_export-requires-clause-may : goal.set_export-requires-clause-may
set_export-requires-clause-may c =
    may_export c.args.topology.now c.laws.ensures c.args.self.now c.args.vrf c.args.target c.args.on c.requires.may
