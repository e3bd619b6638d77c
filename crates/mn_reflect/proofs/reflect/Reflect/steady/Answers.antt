use Rattle.std.proofs.Common.{◌∙◌, ap, refl, sym, subst}
use Rattle.mn_edges.specs.Peers.{peers_from}
use Rattle.mn_reflect_telling.specs.Mentions.{AreNodes}
use Rattle.mn_reflect_telling.proofs.Results.{if_ok}
use Rattle.mn_reflect.proofs.Views.{ends_row, few_ends, peers_there}
use Rattle.mn_reflect.proofs.reflect.Reflect.steady.Goals as goal

pub steady_peers-requires : goal.steady_peers-requires
steady_peers-requires c =
    few_ends c.self.view_is c.self.invariant.shape c.args.node.0 c.requires c.deref.result.now
    (c.deref.ensures.value ∙ ends_row c.self.view_is c.self.invariant.shape c.self.inside.sessions.items refl c.from.ensures c.requires c.index.ensures)
    c.laws.ensures.few_nodes

pub returns-clause-are : goal.returns-clause-are
returns-clause-are c = if_ok c.steady_peers.result (λ peers is.
    is ∙ ap (peers_from 0)
    (c.deref.ensures.value ∙ ends_row c.self.view_is c.self.invariant.shape c.self.inside.sessions.items refl c.from.ensures c.requires c.index.ensures))
    c.steady_peers.ensures

pub returns-clause-nodes : goal.returns-clause-nodes
returns-clause-nodes c = if_ok c.steady_peers.result (λ peers is.
    subst (AreNodes c.args.self.now.topology) (sym is) (peers_there c.self.view_is c.self.invariant.shape c.args.node.0 c.requires c.deref.result.now
    (c.deref.ensures.value ∙ ends_row c.self.view_is c.self.invariant.shape c.self.inside.sessions.items refl c.from.ensures c.requires c.index.ensures)))
    c.steady_peers.ensures
