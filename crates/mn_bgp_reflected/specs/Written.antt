-- A reflected announcement as it is written.
use Rattle.std.specs.Prelude.{ℕ, List, [], ◌∷◌, Some}
use Rattle.std.specs.List.{flat_map}
use Rattle.mn_base.specs.declared.numbers.Rt.{Rt}
use Rattle.mn_vpn_nlri.specs.declared.message.VpnRoute.{VpnRoute}
use Rattle.mn_bgp_wire.specs.Grammar.{PathAttribute}
use Rattle.mn_bgp_wire.specs.Written.{written_origin, written_as_path, written_local_pref, written_reach, written_communities, says_announced}
use Rattle.mn_bgp_reflected.specs.Says.{SaysReflected}
use Rattle.mn_bgp_reflected.specs.Grammar.{originator_kind, cluster_kind, address_bytes}

-- Flag 80, optional: RFC 4456, section 8.

abbrev pub written_originator : ℕ → PathAttribute
written_originator originator = record { flags = 0x80; kind = originator_kind; value = address_bytes originator }

abbrev pub written_clusters : List ℕ → PathAttribute
written_clusters clusters = record { flags = 0x80; kind = cluster_kind; value = flat_map address_bytes clusters }

-- an announcement, with the attributes of a reflector before its routes
abbrev pub reflected : ℕ → VpnRoute → List Rt → ℕ → List ℕ → List PathAttribute
reflected hop route targets originator clusters =
    written_origin ∷ written_as_path ∷ written_local_pref
    ∷ written_originator originator ∷ written_clusters clusters
    ∷ written_reach hop route ∷ written_communities targets ∷ []

-- and what it says
abbrev pub says_reflected : ℕ → VpnRoute → List Rt → ℕ → List ℕ → SaysReflected
says_reflected hop route targets originator clusters =
    record { update = says_announced hop route targets; originator = Some originator; clusters = clusters }
