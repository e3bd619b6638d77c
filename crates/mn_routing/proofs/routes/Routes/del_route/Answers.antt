use Rattle.mn_routing_laws.proofs.Can.{may_del}
use Rattle.mn_routing.proofs.routes.Routes.del_route.Goals as goal

pub del_at-requires-clause-may : goal.del_at-requires-clause-may
del_at-requires-clause-may c =
    may_del c.args.topology.now c.laws.ensures c.args.self.now c.args.site c.args.prefix c.requires.may
