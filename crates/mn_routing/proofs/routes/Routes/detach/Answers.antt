use Rattle.mn_routing_laws.proofs.Can.{may_detach, site_detached}
use Rattle.mn_routing_laws.proofs.Dids.{did_detach}
use Rattle.mn_routing.proofs.routes.Routes.detach.Goals as goal

pub detach_at-requires-clause-site : goal.detach_at-requires-clause-site
detach_at-requires-clause-site c =
    site_detached c.args.topology.now c.args.site c.args.self.now c.requires.may

pub detach_at-requires-clause-may : goal.detach_at-requires-clause-may
detach_at-requires-clause-may c =
    may_detach c.args.topology.now c.laws.ensures c.args.self.now c.args.site c.requires.may

pub returns : goal.returns
returns c = record {
  did =
      did_detach c.args.topology.now c.laws.ensures c.args.clock.tick c.args.clock.number c.in_ok-next.next c.args.self.now c.detach_at.new.self c.args.site
      c.in_ok-next.ensures;
}
