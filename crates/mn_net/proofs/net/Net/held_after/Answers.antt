use Rattle.mn_net.proofs.Held.{edge_below, no_edge, after_seen}
use Rattle.mn_net.proofs.net.Net.held_after.Goals as goal

pub edge-requires : goal.edge-requires
edge-requires c = edge_below _ _ c.self.view_is c.self.invariant c.requires.works _ c.edge_of-node.ensures.there

pub returns-in-Some : goal.returns-in-Some
returns-in-Some c =
    let seen = after_seen _ _ c.self.view_is c.self.invariant c.requires.works c.laws.ensures c.args.vrf.0 c.requires.vrf _ c.edge_of-node.ensures.edge
    c.in-Some.edge.now c.args.last c.held_after.result c.in-Some.ensures c.held_after.ensures in
    record { told = λ place. (seen place).0; labels = λ place. (seen place).1 }

pub returns-in-None : goal.returns-in-None
returns-in-None c =
    absurd (no_edge _ _ c.self.view_is c.self.invariant c.requires.works c.laws.ensures c.args.vrf.0 c.requires.vrf _ c.edge_of-node.ensures.edge
    c.in-None.ensures)
