-- The messages as they are written: of the bytes that say the same, these.
use Rattle.std.specs.Prelude.{ℕ, List, [], ◌∷◌, ◌++◌, length, replicate, true, false}
use Rattle.byteorder.specs.Endian.{big_bytes}
use Rattle.mn_base.specs.declared.numbers.Rd.{Rd}
use Rattle.mn_base.specs.declared.numbers.Rt.{Rt}
use Rattle.mn_prefix.specs.Prefix.{AddressBlock}
use Rattle.mn_vpn_nlri.specs.declared.message.VpnRoute.{VpnRoute}
use Rattle.mn_vpn_nlri.specs.Grammar.{written, written_targets, withdrawn_label}
use Rattle.mn_bgp_wire.specs.Says.{Says}
use Rattle.mn_bgp_wire.specs.Grammar.{Field, field_bytes, message_bytes, open_kind, update_kind, keepalive_kind, capabilities_kind, multiprotocol}
use Rattle.mn_bgp_wire.specs.Grammar.{vpn_family, PathAttribute, attributes_bytes, update_body, origin_kind, as_path_kind, local_pref_kind, mp_reach_kind}
use Rattle.mn_bgp_wire.specs.Grammar.{mp_unreach_kind, extended_communities_kind}

-- RFC 4760, section 8: the capability to take VPN-IPv4 routes
abbrev pub vpn_capability : Field
vpn_capability = record { kind = multiprotocol; value = 0 ∷ 1 ∷ 0 ∷ 0x80 ∷ [] }

-- RFC 5492, section 4: the one parameter, with the one capability
abbrev pub vpn_parameter : Field
vpn_parameter = record { kind = capabilities_kind; value = field_bytes vpn_capability }

-- version 4, hold time 0
abbrev pub open_body : ℕ → ℕ → List ℕ
open_body asn id = 4 ∷ big_bytes 2 asn ++ big_bytes 2 0 ++ big_bytes 4 id ++ length (field_bytes vpn_parameter) ∷ field_bytes vpn_parameter

abbrev pub open_bytes : ℕ → ℕ → List ℕ
open_bytes asn id = message_bytes open_kind (open_body asn id)

abbrev pub keepalive_bytes : List ℕ
keepalive_bytes = message_bytes keepalive_kind []

-- Flags: 80 optional, 40 transitive.

-- RFC 4271, section 5.1.1: the routes come from within the AS
abbrev pub written_origin : PathAttribute
written_origin = record { flags = 0x40; kind = origin_kind; value = 0 ∷ [] }

-- RFC 4271, section 5.1.2: to a peer of the same AS, no path
abbrev pub written_as_path : PathAttribute
written_as_path = record { flags = 0x40; kind = as_path_kind; value = [] }

-- RFC 4271, section 5.1.5: the preference that is usual
abbrev pub written_local_pref : PathAttribute
written_local_pref = record { flags = 0x40; kind = local_pref_kind; value = big_bytes 4 100 }

-- RFC 4364, section 4.3.2: the next hop has a distinguisher of zeros
abbrev pub reach_value : ℕ → VpnRoute → List ℕ
reach_value hop route = vpn_family ++ 12 ∷ replicate 8 0 ++ big_bytes 4 hop ++ 0 ∷ written route false

abbrev pub written_reach : ℕ → VpnRoute → PathAttribute
written_reach hop route = record { flags = 0x80; kind = mp_reach_kind; value = reach_value hop route }

abbrev pub written_communities : List Rt → PathAttribute
written_communities targets = record { flags = 0xC0; kind = extended_communities_kind; value = written_targets targets }

-- an announcement
abbrev pub announced : ℕ → VpnRoute → List Rt → List PathAttribute
announced hop route targets = written_origin ∷ written_as_path ∷ written_local_pref ∷ written_reach hop route ∷ written_communities targets ∷ []

-- and what it says
abbrev pub says_announced : ℕ → VpnRoute → List Rt → Says
says_announced hop route targets = record { next_hop = hop; reached = route ∷ []; withdrawn = []; targets = targets }

-- a route that goes, with the label that is read there
abbrev pub withdrawn_route : Rd → AddressBlock → VpnRoute
withdrawn_route rd prefix = record { rd = rd; prefix = prefix; label = withdrawn_label }

abbrev pub unreach_value : Rd → AddressBlock → List ℕ
unreach_value rd prefix = vpn_family ++ written (withdrawn_route rd prefix) true

abbrev pub written_unreach : Rd → AddressBlock → PathAttribute
written_unreach rd prefix = record { flags = 0x80; kind = mp_unreach_kind; value = unreach_value rd prefix }

-- a withdrawal
abbrev pub withdrawn : Rd → AddressBlock → List PathAttribute
withdrawn rd prefix = written_unreach rd prefix ∷ []

-- and what it says
abbrev pub says_withdrawn : Rd → AddressBlock → Says
says_withdrawn rd prefix = record { next_hop = 0; reached = []; withdrawn = withdrawn_route rd prefix ∷ []; targets = [] }

-- an UPDATE with these attributes
abbrev pub update_bytes : List PathAttribute → List ℕ
update_bytes attributes = message_bytes update_kind (update_body (attributes_bytes attributes))
