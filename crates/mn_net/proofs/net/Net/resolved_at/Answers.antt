use Rattle.std.proofs.Common.{◌≡◌, ◌∙◌, ap, subst, filter, None}
use Rattle.std.specs.Prelude.{option_map, slice_index_or}
use Rattle.mn_ledger.specs.Ledger.{world_of}
use Rattle.mn_ledger.specs.Places.{edge_of}
use Rattle.mn_ledger.specs.Held.{HeldRoute, held}
use Rattle.mn_ledger.specs.Eligible.{is_resolved}
use Rattle.mn_frame_laws.specs.Entries.{AreWays}
use Rattle.mn_frame_laws.specs.Given.{given}
use Rattle.mn_pe.specs.Entries.{source_of}
use Rattle.mn_net_laws.specs.Now.{NetNow}
use Rattle.mn_net_laws.proofs.Told.{net_is}
use Rattle.mn_ledger.specs.Heads.{best_for}
use Rattle.mn_net.proofs.Held.{edge_below, no_edge}
use Rattle.mn_net.proofs.Open.{open_told}
use Rattle.mn_net.proofs.Views.{vrf_there}
use Rattle.mn_net.proofs.net.Net.resolved_at.Goals as goal

pub edge-requires : goal.edge-requires
edge-requires c = edge_below _ _ c.self.view_is c.self.invariant c.requires.works _ c.edge_of-node.ensures.there

pub returns-in-Some : goal.returns-in-Some
returns-in-Some c =
    let is = net_is _ _ c.self.view_is c.self.invariant c.requires.works in
    let v = vrf_there _ _ c.self.view_is c.args.vrf.0 c.requires.vrf in
    subst (λ (n : NetNow). AreWays n.topology (world_of n.topology n.journal) (edge_of n.topology c.args.vrf.0) c.args.ways.now
    → c.open_at.result ≡ option_map (λ (route : HeldRoute). source_of (given n.topology n.journal) route route.source)
    (best_for (filter (is_resolved n.topology (world_of n.topology n.journal) (edge_of n.topology c.args.vrf.0))
    (held n.topology (world_of n.topology n.journal).config (world_of n.topology n.journal).peerings (edge_of n.topology c.args.vrf.0) c.args.vrf.0))
    c.args.prefix)) c.self.view_is
    (open_told _ c.laws.ensures is c.args.vrf.0 v c.args.prefix c.args.ways.now c.in-Some.edge.now c.open_at.result
    (c.in-Some.ensures ∙ ap (λ n. slice_index_or c.self.inside.routes.edges n None) c.edge_of-node.ensures.edge) c.open_at.ensures)

pub returns-in-None : goal.returns-in-None
returns-in-None c =
    absurd (no_edge _ _ c.self.view_is c.self.invariant c.requires.works c.laws.ensures c.args.vrf.0 c.requires.vrf _ c.edge_of-node.ensures.edge
    c.in-None.ensures)
