use Rattle.std.proofs.Common.{◌<◌, ◌∙◌, ap, sym, subst}
use Rattle.mn_wiring.specs.Wiring.{sender}
use Rattle.mn_topo.specs.Network.{wiring_of}
use Rattle.mn_net_laws.specs.Told.{state_at}
use Rattle.mn_net_laws.proofs.Told.{net_is, link_of, state_told}
use Rattle.mn_ledger.specs.Ledger.{world_of}
use Rattle.mn_net_laws.specs.Now.{NetNow}
use Rattle.mn_net.proofs.net.Net.ldp_state.Goals as goal

pub node-requires : goal.node-requires
node-requires c =
    let is = net_is _ _ c.self.view_is c.self.invariant c.requires.works in
    subst (λ n. c.sender-end.result.0 < n) (sym is.stands.transport.each) c.sender-end.ensures.there

pub returns : goal.returns
returns c =
    let is = net_is _ _ c.self.view_is c.self.invariant c.requires.works in
    let t = c.self.inside.topology in
    let w = world_of t c.self.inside.journal.items in
    record {
      told = c.session_state.ensures
          ∙ state_told t _ _ w c.args.link.0 c.sender-end.result.0 c.args.dir c.node.result.now
          (is.stands.transport.nodes c.sender-end.result.0 c.node.result.now c.node.ensures) c.sender-end.ensures.end
          (link_of _ _ c.self.view_is c.args.link.0 c.requires.link)
          ∙ ap (λ (n : NetNow). state_at n.topology (world_of n.topology n.journal) c.args.link.0 (sender (wiring_of n.topology) c.args.link.0 c.args.dir))
          c.self.view_is;
    }
