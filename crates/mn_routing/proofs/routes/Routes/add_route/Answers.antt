use Rattle.mn_routing_laws.proofs.Can.{may_add}
use Rattle.mn_routing.proofs.routes.Routes.add_route.Goals as goal

pub add_at-requires-clause-may : goal.add_at-requires-clause-may
add_at-requires-clause-may c =
    may_add c.args.topology.now c.laws.ensures c.args.self.now c.args.site c.args.prefix c.requires.may
