-- What is sent, as letters: RFC 4271, sections 4.2 to 4.4; RFC 4456, section 8.
use Rattle.std.specs.Prelude.{ℕ, ◌==◌, ◌&&◌, Bool, if◌then◌else◌, List, [], ◌∷◌, map, Option, Some, None}
use Rattle.std.specs.List.{flat_map}
use Rattle.mn_base.specs.declared.numbers.NodeNo.{NodeNo}
use Rattle.mn_base.specs.declared.numbers.Rt.{Rt}
use Rattle.mn_topo.specs.Network.{Network}
use Rattle.mn_vpn_nlri.specs.declared.message.VpnRoute.{VpnRoute}
use Rattle.mn_bgp_wire.specs.Written.{open_bytes, keepalive_bytes, update_bytes, withdrawn}
use Rattle.mn_bgp_reflected.specs.Written.{reflected}
use Rattle.mn_ledger.specs.Places.{loopback, vrf_at, edge_of}
use Rattle.mn_ledger.specs.Exports.{same_targets}
use Rattle.mn_pe.specs.Held.{Exported}
use Rattle.mn_routing_laws.specs.Sending.{spelled_in}
use Rattle.mn_offers.specs.Heard.{Heard}
use Rattle.mn_mail.specs.Mail.{Letter}
use Rattle.mn_reflect_ledger_laws.specs.Words.{Key}
use Rattle.mn_reflect_world_laws.specs.Choice.{Row, offered_of}

-- 1. One letter

abbrev pub open_letter : Network → ℕ → ℕ → Letter
open_letter topology from to = record { from = from; to = to; bytes = open_bytes topology.asn (loopback topology from) }

abbrev pub keep_letter : ℕ → ℕ → Letter
keep_letter from to = record { from = from; to = to; bytes = keepalive_bytes }

abbrev pub vpn_route_of : Network → Heard → VpnRoute
vpn_route_of topology route = record { rd = (vrf_at topology route.vrf).rd; prefix = route.prefix; label = route.label }

-- the address of the edge that exports the route, which stays the next hop
abbrev pub next_hop : Network → ℕ → ℕ
next_hop topology v = loopback topology (edge_of topology v)

-- a route that a reflector passes on
abbrev pub reflected_letter : Network → ℕ → ℕ → Heard → Letter
reflected_letter topology from to route = record {
  from = from;
  to = to;
  bytes =
      update_bytes (reflected (next_hop topology route.vrf) (vpn_route_of topology route) route.targets (next_hop topology route.vrf) route.clusters);
}

abbrev pub withdrawal_letter : Network → ℕ → ℕ → Key → Letter
withdrawal_letter topology from to key = record { from = from; to = to; bytes = update_bytes (withdrawn (vrf_at topology key.vrf).rd key.prefix) }

-- an edge's export, as it comes or goes
abbrev pub export_letter : Network → ℕ → ℕ → Bool → Exported → Letter
export_letter topology from to comes export = record { from = from; to = to; bytes = spelled_in topology from comes export }

-- 2. A change of a route

abbrev pub numbers : List Rt → List ℕ
numbers targets = map (λ (target : Rt). target.0) targets

-- two announcements of a route say the same
abbrev pub says_same : Heard → Heard → Bool
says_same route other =
    (route.label == other.label) && (same_targets (numbers route.targets) (numbers other.targets) && same_targets route.clusters other.clusters)

abbrev pub anew_letters : Network → ℕ → ℕ → Option Heard → Heard → List Letter
anew_letters topology from to None new = reflected_letter topology from to new ∷ []
anew_letters topology from to (Some old) new = if says_same old new then [] else reflected_letter topology from to new ∷ []

-- an offer that comes or changes is announced, and one that goes is withdrawn
abbrev pub change_letters : Network → ℕ → ℕ → Key → Option Heard → Option Heard → List Letter
change_letters topology from to key old (Some new) = anew_letters topology from to old new
change_letters topology from to key (Some old) None = withdrawal_letter topology from to key ∷ []
change_letters topology from to key None None = []

-- 3. News

-- what a reflector says of these routes, in their order, to these peers, in theirs, as its row changes
abbrev pub reflector_news : Network → List ℕ → ℕ → List NodeNo → Row → Row → List Key → List Letter
reflector_news topology reflectors node peers was row keys =
    flat_map (λ key. flat_map (λ (peer : NodeNo). change_letters topology node peer.0 key (offered_of topology reflectors was node peer.0 key)
    (offered_of topology reflectors row node peer.0 key)) peers) keys

-- all that a reflector offers a peer, of these routes
abbrev pub reflector_offers : Network → List ℕ → ℕ → ℕ → Row → List Key → List Letter
reflector_offers topology reflectors node peer row keys =
    flat_map (λ key. change_letters topology node peer key None (offered_of topology reflectors row node peer key)) keys

-- what an edge says of exports that come or go
abbrev pub edge_news : Network → ℕ → List NodeNo → Bool → List Exported → List Letter
edge_news topology node peers comes exports = flat_map (λ export. map (λ (peer : NodeNo). export_letter topology node peer.0 comes export) peers) exports
