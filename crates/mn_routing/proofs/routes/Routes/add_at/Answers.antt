use Rattle.std.proofs.Common.{true, ◌∙◌}
use Rattle.mn_ledger.specs.Places.{home_of}
use Rattle.mn_pe.specs.Exports.{export_of}
use Rattle.mn_edges.specs.Changes.{those_of, static_added}
use Rattle.mn_routing_laws.specs.Doing.{edge_at}
use Rattle.mn_routing_laws.proofs.Said.{told_on}
use Rattle.mn_routing.proofs.routes.Routes.add_at.Goals as goal

pub returns : goal.returns
returns c =
    told_on c.args.topology.now c.args.clock.tick c.args.clock.number c.args.self.now c.add_on_edge.new.self c.tell_peers.new.self c.home_of-edge.result.0
    (home_of c.args.topology.now c.args.site.0)
    (λ e. static_added (edge_at c.args.self.now e) c.args.site c.args.prefix) true
    (λ e. those_of (export_of (static_added (edge_at c.args.self.now e) c.args.site c.args.prefix) c.args.site.0 c.args.prefix)) c.deref.result.now
    c.tell_peers.result
    c.in_ok-come.ensures.now c.home_of-edge.ensures.home (c.deref.ensures.value ∙ c.in_ok-come.ensures.come) c.tell_peers.ensures
