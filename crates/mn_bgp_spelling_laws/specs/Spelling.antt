-- What edges send each other, as BGP messages and as bytes, and the sessions in which they do: RFC 4271, sections 4.2 to 4.4, RFC 4760,
-- sections 3 and 4, and RFC 4364, section 4.3.
use Rattle.std.specs.Prelude.{◌≤◌, ℕ, true, List, map, length, ⊤}
use Rattle.mn_base.specs.declared.numbers.Rt.{Rt}
use Rattle.mn_topo.specs.Network.{Network}
use Rattle.mn_vpn_nlri.specs.declared.message.VpnRoute.{VpnRoute}
use Rattle.mn_vpn_nlri.specs.Grammar.{IsVpnRoute, AllTargets}
use Rattle.mn_bgp_wire.specs.declared.message.BgpMessage.{BgpMessage}
use Rattle.mn_bgp_wire.specs.declared.message.BgpMessage.TheVariants as message
use Rattle.mn_bgp_wire.specs.Written.{open_bytes, keepalive_bytes, update_bytes, announced, withdrawn, withdrawn_route, says_announced, says_withdrawn}
use Rattle.mn_bgp_session.specs.declared.session.BgpSession.{BgpSession}
use Rattle.mn_ledger.specs.Places.{loopback, vrf_at}
use Rattle.mn_ledger.specs.World.{Config, Export, Telling, Open, BgpKeepAlive, Announcement, Withdrawal, Peerings}
use Rattle.mn_ledger.specs.Bgp.{bgp_state_of}

-- by site and the number of its attachment, the label
abbrev pub Labels : Type 0
Labels = ℕ → ℕ → ℕ

abbrev pub as_targets : List ℕ → List Rt
as_targets targets = map (λ target. record { 0 = target }) targets

-- the route of an export: its VRF's distinguisher, its prefix, and the label of its site's attachment
abbrev pub route_of : Network → Labels → Export → VpnRoute
route_of topology labels export = record { rd = (vrf_at topology export.vrf).rd; prefix = export.prefix; label = labels export.site export.attachment }

-- a message as its reader has it
abbrev pub message_in : Network → Labels → ℕ → Telling → BgpMessage
message_in topology labels teller Open = message.Opening 4 topology.asn 0 (loopback topology teller) true
message_in topology labels teller BgpKeepAlive = message.KeepAlive
message_in topology labels teller (Announcement export) =
    message.Update (says_announced (loopback topology teller) (route_of topology labels export) (as_targets export.targets))
message_in topology labels teller (Withdrawal v prefix) = message.Update (says_withdrawn (vrf_at topology v).rd prefix)

-- and as it is written
abbrev pub bytes_in : Network → Labels → ℕ → Telling → List ℕ
bytes_in topology labels teller Open = open_bytes topology.asn (loopback topology teller)
bytes_in topology labels teller BgpKeepAlive = keepalive_bytes
bytes_in topology labels teller (Announcement export) =
    update_bytes (announced (loopback topology teller) (route_of topology labels export) (as_targets export.targets))
bytes_in topology labels teller (Withdrawal v prefix) = update_bytes (withdrawn (vrf_at topology v).rd prefix)

-- it can be written: the route is one, and the targets are, 16 at most
abbrev pub IsWritable : Network → Labels → Telling → Type 0
IsWritable topology labels (Announcement export) =
    IsVpnRoute (route_of topology labels export) × (length (as_targets export.targets) ≤ 16) × AllTargets (as_targets export.targets)
IsWritable topology labels (Withdrawal v prefix) = IsVpnRoute (withdrawn_route (vrf_at topology v).rd prefix)
IsWritable topology labels _ = ⊤

-- one end of the session of two edges
abbrev pub session_in : Network → Config → Peerings → ℕ → ℕ → BgpSession
session_in topology config peerings edge peer =
    record { asn = topology.asn; me = loopback topology edge; peer = loopback topology peer; state = bgp_state_of config peerings edge peer }
