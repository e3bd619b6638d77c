use Rattle.std.proofs.Common.{◌∙◌, ap, length, []}
use Rattle.std.specs.Prelude.{slice_index_or}
use Rattle.mn_routing_laws.specs.Routed.{Routed}
use Rattle.mn_routing_laws.proofs.Putting.{told_to_nodes}
use Rattle.mn_routing.proofs.routes.Routes.tell_peers.Goals as goal

pub tell-requires-clause-peers : goal.tell-requires-clause-peers
tell-requires-clause-peers c =
    told_to_nodes _ c.self.inside.sessions.items c.from.result c.args.edge.0
    (length c.args.topology.now.loopbacks) c.index.result.now c.deref.result.now c.in_ok-peers.peers.items c.deref-2.result.now c.index.ensures
    c.from.ensures c.requires.edge
    (ap (λ (x : Routed). length x.sessions) c.self.view_is ∙ c.requires.has.rows)
    (ap (λ (x : Routed). length (slice_index_or x.sessions c.args.edge.0 [])) c.self.view_is ∙ c.requires.has.ends)
    c.deref.ensures.value c.in_ok-peers.ensures c.deref-2.ensures.value
