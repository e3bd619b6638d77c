-- The routes of a network: its edges, and the sessions between them.
use Rattle.std.specs.Prelude.{ℕ, if◌then◌else◌, List, [], map, slice_index_or, slice_set, Option, Some, None, option_map}
use Rattle.mn_wiring.specs.Wiring.{nodes_of}
use Rattle.mn_topo.specs.Network.{Network, wiring_of}
use Rattle.mn_topo.specs.VrfTable.{is_edge}
use Rattle.mn_bgp_wire.specs.Says.{Says}
use Rattle.mn_bgp_wire.specs.declared.message.BgpMessage.{BgpMessage}
use Rattle.mn_bgp_wire.specs.declared.message.BgpMessage.TheVariants as message
use Rattle.mn_bgp_session.specs.declared.session.BgpSession.{BgpSession}
use Rattle.mn_bgp_session.specs.Table as table
use Rattle.mn_ledger.specs.World.{Config, Peerings}
use Rattle.mn_ledger.specs.Bgp.{peers_live}
use Rattle.mn_states.specs.declared.states.BgpState.TheVariants.{OpenSent}
use Rattle.mn_ledger.specs.Places.{loopback}
use Rattle.mn_pe.specs.Edge.{Edge, after_message, after_forget}
use Rattle.mn_bgp_spelling_laws.specs.Spelling.{Labels}
use Rattle.mn_routing_laws.specs.Standing.{edge_in}
use Rattle.mn_bgp_spelling_laws.specs.Spelling.{session_in}

pub record RoutesNow : Type 0 where
  pub edges : List (Option Edge)  -- by node, none of a node that is no edge
  pub sessions : List (List (Option BgpSession))  -- by node and peer, none where no session lives

abbrev pub edge_or_none : Network → Labels → Config → Peerings → ℕ → Option Edge
edge_or_none topology labels config peerings node = if is_edge topology.vrfs node then Some (edge_in topology labels config peerings node) else None

abbrev pub session_or_none : Network → Config → Peerings → ℕ → ℕ → Option BgpSession
session_or_none topology config peerings node peer = if peers_live config node peer then Some (session_in topology config peerings node peer) else None

abbrev pub routes_in : Network → Labels → Config → Peerings → RoutesNow
routes_in topology labels config peerings = record {
  edges = map (edge_or_none topology labels config peerings) (nodes_of (wiring_of topology));
  sessions = map (λ node. map (session_or_none topology config peerings node) (nodes_of (wiring_of topology))) (nodes_of (wiring_of topology));
}

-- the routes that a message says, if it is an UPDATE
abbrev pub update_of : BgpMessage → Option Says
update_of (message.Update says) = Some says
update_of _ = None

-- 2. What each step changes

-- one edge
abbrev pub at_edge : ℕ → (Edge → Edge) → RoutesNow → RoutesNow
at_edge edge change routes = record routes { edges = slice_set routes.edges edge (option_map change (slice_index_or routes.edges edge None)) }

-- one end of a session
abbrev pub at_end : ℕ → ℕ → (Option BgpSession → Option BgpSession) → RoutesNow → RoutesNow
at_end edge peer change routes = record routes {
  sessions = slice_set routes.sessions edge (slice_set (slice_index_or routes.sessions edge []) peer
      (change (slice_index_or (slice_index_or routes.sessions edge []) peer None)));
}

-- as an edge receives a message of a peer: what it says of routes is taken, and the session goes on by the table
abbrev pub after_hearing : RoutesNow → ℕ → ℕ → BgpMessage → RoutesNow
after_hearing routes edge peer message =
    at_end edge peer (option_map (λ session. table.after_message session message)) (at_edge edge (λ now. after_message now peer (update_of message)) routes)

-- as the session of two edges opens: each has sent OPEN
abbrev pub opened : Network → ℕ → ℕ → BgpSession
opened topology edge peer = record { asn = topology.asn; me = loopback topology edge; peer = loopback topology peer; state = OpenSent }

abbrev pub after_opening : Network → RoutesNow → ℕ → ℕ → RoutesNow
after_opening topology routes a b = at_end b a (λ end. Some (opened topology b a)) (at_end a b (λ end. Some (opened topology a b)) routes)

-- as it ends: each edge forgets what it received from the other
abbrev pub after_ending : RoutesNow → ℕ → ℕ → RoutesNow
after_ending routes a b =
    at_end b a (λ end. None) (at_end a b (λ end. None) (at_edge b (λ now. after_forget now a) (at_edge a (λ now. after_forget now b) routes)))
