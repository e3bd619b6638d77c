use Rattle.std.proofs.Common.{subst}
use Rattle.mn_ledger.specs.Ledger.{world_of}
use Rattle.mn_ledger.specs.Places.{edge_of}
use Rattle.mn_frame_laws.specs.Entries.{AreWays}
use Rattle.mn_net_laws.specs.Now.{NetNow}
use Rattle.mn_net_laws.proofs.Told.{net_is}
use Rattle.mn_net.proofs.Views.{transport_there}
use Rattle.mn_net.proofs.net.Net.ways_of.Goals as goal

pub ways-requires-clause-stands : goal.ways-requires-clause-stands
ways-requires-clause-stands c = transport_there _ _ c.self.view_is c.self.invariant c.requires.works

pub returns : goal.returns
returns c =
    let is = net_is _ _ c.self.view_is c.self.invariant c.requires.works in
    subst (λ (n : NetNow). AreWays n.topology (world_of n.topology n.journal) (edge_of n.topology c.args.vrf.0) c.ways.result) c.self.view_is
    (subst (λ n. AreWays c.self.inside.topology (world_of c.self.inside.topology c.self.inside.journal.items) n c.ways.result) c.edge_of-edge.ensures.edge
    (c.ways.ensures c.self.inside.journal.items is.stands.transport))
