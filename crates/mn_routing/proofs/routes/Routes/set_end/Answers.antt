use Rattle.std.proofs.Common.{◌<◌, ◌∙◌, ap, refl, subst, sym, length}
use Rattle.mn_routing_laws.specs.Routed.{Routed}
use Rattle.mn_routing_laws.specs.Doing.{with_end}
use Rattle.mn_routing.proofs.Rows.{row_set}
use Rattle.mn_routing.proofs.routes.Routes.set_end.Goals as goal

pub returns : goal.returns
returns c =
    let i = c.self.inside in
    ap (λ rows. let r : Routed = record { edges = i.edges.items; sessions = rows; messages = i.messages.items } in r)
    (row_set _ i.sessions.items c.from.result c.from-2.result c.args.edge.0 c.args.peer.0 c.index_mut.result.now c.index_mut.ensures.value c.from.ensures
    c.from-2.ensures
    (subst (λ (x : Routed). c.args.edge.0 < length x.sessions) (sym c.self.view_is) c.requires.edge) _ c.args.end refl)
    ∙ ap (with_end c.args.edge.0 c.args.peer.0 c.args.end) c.self.view_is
