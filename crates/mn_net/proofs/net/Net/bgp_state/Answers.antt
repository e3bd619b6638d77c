use Rattle.std.proofs.Common.{◌<◌, ◌∙◌, ap, sym, subst}
use Rattle.mn_ledger.specs.Ledger.{world_of}
use Rattle.mn_ledger.specs.Bgp.{bgp_state_of}
use Rattle.mn_net_laws.specs.Now.{NetNow}
use Rattle.mn_net_laws.proofs.Told.{net_is}
use Rattle.mn_net.proofs.Held.{session_told, rows_length, row_length}
use Rattle.mn_net.proofs.Views.{node_there}
use Rattle.mn_net.proofs.net.Net.bgp_state.Goals as goal

pub bgp_state-requires-clause-edge : goal.bgp_state-requires-clause-edge
bgp_state-requires-clause-edge c =
    let is = net_is _ _ c.self.view_is c.self.invariant c.requires.works in
    subst (λ n. c.args.at.0 < n) (sym (rows_length _ is)) (node_there _ _ c.self.view_is c.args.at.0 c.requires.at)

pub bgp_state-requires-clause-peer : goal.bgp_state-requires-clause-peer
bgp_state-requires-clause-peer c =
    let is = net_is _ _ c.self.view_is c.self.invariant c.requires.works in
    let at = node_there _ _ c.self.view_is c.args.at.0 c.requires.at in
    subst (λ n. c.args.peer.0 < n) (sym (row_length _ is c.args.at.0 at))
    (node_there _ _ c.self.view_is c.args.peer.0 c.requires.peer)

pub returns : goal.returns
returns c =
    let is = net_is _ _ c.self.view_is c.self.invariant c.requires.works in
    let at = node_there _ _ c.self.view_is c.args.at.0 c.requires.at in
    let peer = node_there _ _ c.self.view_is c.args.peer.0 c.requires.peer in
    record {
      told = c.bgp_state.ensures ∙ session_told _ is c.args.at.0 c.args.peer.0 at peer
          ∙ ap (λ (n : NetNow). bgp_state_of (world_of n.topology n.journal).config (world_of n.topology n.journal).peerings c.args.at.0 c.args.peer.0)
          c.self.view_is;
    }
