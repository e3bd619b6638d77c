-- What an edge exports of its VRFs: route targets, and the routes that carry them. RFC 4364, sections 4.3.1 and 4.3.2.
use Rattle.std.specs.Prelude.{ℕ, ◌==◌, ◌&&◌, ◌||◌, Bool, true, false, nat_lt, if◌then◌else◌, List, [], ◌∷◌, map}
use Rattle.std.specs.Prelude.{filter, is_some, unwrap_or}
use Rattle.std.specs.List.{flat_map, list_any}
use Rattle.mn_topo.specs.Prefix.{AddressBlock}
use Rattle.mn_topo.specs.Network.{Network}
use Rattle.mn_ledger.specs.Places.{vrf_of, vrfs_at}
use Rattle.mn_ledger.specs.World.{Config, SiteRoute, Export}

-- the target is one of these
abbrev pub has_target : List ℕ → ℕ → Bool
has_target targets target = list_any (λ other. other == target) targets

-- two sets share a target: RFC 4364, section 4.3.1
abbrev pub meet : List ℕ → List ℕ → Bool
meet targets others = list_any (has_target others) targets

abbrev pub same_targets : List ℕ → List ℕ → Bool
same_targets [] [] = true
same_targets (one ∷ targets) (other ∷ others) = (one == other) && same_targets targets others
same_targets _ _ = false

-- by address, and of one address by length
abbrev pub comes_before : AddressBlock → AddressBlock → Bool
comes_before prefix other = nat_lt prefix.address other.address || ((prefix.address == other.address) && nat_lt prefix.length other.length)

-- the exports in the order of prefixes, and one more
abbrev pub placed : Export → List Export → List Export
placed export [] = export ∷ []
placed export (other ∷ others) = if comes_before export.prefix other.prefix then export ∷ other ∷ others else other ∷ placed export others

abbrev pub in_order : List Export → List Export
in_order [] = []
in_order (export ∷ exports) = placed export (in_order exports)

-- the static is one of the VRF, and its site is attached
abbrev pub is_present : Network → Config → ℕ → SiteRoute → Bool
is_present topology config v static = (vrf_of topology static.site == v) && is_some (config.attached static.site)

abbrev pub export_of : Config → ℕ → List ℕ → SiteRoute → Export
export_of config v targets static =
    record { vrf = v; prefix = static.prefix; site = static.site; attachment = unwrap_or (config.attached static.site) 0; targets = targets }

-- the VRF's statics of attached sites, with these targets, in the order of prefixes
abbrev pub present_with : Network → Config → ℕ → List ℕ → List Export
present_with topology config v targets = in_order (map (export_of config v targets) (filter (is_present topology config v) config.statics))

-- a VRF without an export target exports nothing
abbrev pub exports_with : Network → Config → ℕ → List ℕ → List Export
exports_with topology config v [] = []
exports_with topology config v (target ∷ targets) = present_with topology config v (target ∷ targets)

-- what an edge exports, in the order of VRFs and then of prefixes
abbrev pub exports_of : Network → Config → ℕ → List Export
exports_of topology config edge = flat_map (λ v. exports_with topology config v (config.exports v)) (vrfs_at topology edge)
