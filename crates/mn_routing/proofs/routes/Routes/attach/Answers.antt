use Rattle.mn_routing_laws.proofs.Can.{may_attach}
use Rattle.mn_routing.proofs.routes.Routes.attach.Goals as goal

pub attach_at-requires-clause-may : goal.attach_at-requires-clause-may
attach_at-requires-clause-may c =
    may_attach c.args.topology.now c.laws.ensures c.args.self.now c.args.site c.args.label c.requires.may
