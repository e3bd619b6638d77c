use Rattle.std.proofs.Common.{◌≡◌, ◌∙◌, ap, subst}
use Rattle.std.specs.Prelude.{option_map, Option}
use Rattle.mn_base.specs.declared.numbers.NodeNo.{NodeNo}
use Rattle.mn_ledger.specs.Transport.{usable}
use Rattle.mn_frame_laws.specs.Given.{given}
use Rattle.mn_net_laws.specs.Told.{hop_to}
use Rattle.mn_net_laws.proofs.Told.{net_is, hop_of}
use Rattle.std.proofs.Common.{ℕ}
use Rattle.mn_ledger.specs.Ledger.{world_of}
use Rattle.mn_net_laws.specs.Now.{NetNow}
use Rattle.mn_ledger.specs.Settled.{IsSettled}
use Rattle.mn_net.specs.Settled.{IsByLinks}
use Rattle.mn_net.proofs.Settled.{by_links}
use Rattle.mn_net.proofs.Views.{node_there, transport_there}
use Rattle.mn_net.proofs.net.Net.hop.Goals as goal

pub outer-requires : goal.outer-requires
outer-requires c = record {
  node = node_there _ _ c.self.view_is c.args.node.0 c.requires.node;
  edge = node_there _ _ c.self.view_is c.args.edge.0 c.requires.edge;
  stands = transport_there _ _ c.self.view_is c.self.invariant c.requires.works;
}

pub returns : goal.returns
returns c =
    let is = net_is _ _ c.self.view_is c.self.invariant c.requires.works in
    let t = c.self.inside.topology in
    let es = c.self.inside.journal.items in
    let w = world_of t es in
    let told : c.next_hop.result ≡ hop_to t w c.args.node.0 c.args.edge.0 =
    c.next_hop.ensures
    ∙ ap (λ o. option_map (λ (h : NodeNo × Option ℕ). h.0) o) (c.outer.ensures.told es is.stands.transport)
    ∙ hop_of (given t es) c.args.edge.0 (usable t w.config w.views w.sessions c.args.node.0 c.args.edge.0) in
    record {
      told = told ∙ ap (λ (n : NetNow). hop_to n.topology (world_of n.topology n.journal) c.args.node.0 c.args.edge.0) c.self.view_is;
      settled = λ apart.
          subst (λ (n : NetNow). IsSettled n.topology (world_of n.topology n.journal)
          → IsByLinks n.topology (world_of n.topology n.journal) c.args.node.0 c.args.edge.0 c.next_hop.result) c.self.view_is
          (λ settled. by_links t es is.inputs c.args.node.0 c.args.edge.0 c.laws.ensures is.stands.stands.lawful settled
          (node_there _ _ c.self.view_is c.args.node.0 c.requires.node) (node_there _ _ c.self.view_is c.args.edge.0 c.requires.edge)
          apart c.next_hop.result told);
    }
