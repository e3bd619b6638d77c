-- Sites in order, and the prefixes that stand in their VRFs.
use Rattle.std.specs.Prelude.{ℕ, ◌-◌, ◌^◌, ◌%◌, Bool, false, ◌==◌, ◌&&◌, ◌||◌, nat_lt, nat_le, List, [], ◌∷◌, ◌++◌, map}
use Rattle.std.specs.List.{list_any, flat_map}
use Rattle.mn_prefix.specs.Prefix.{AddressBlock, same_prefix}
use Rattle.mn_topo.specs.declared.sites.SiteDef.{SiteDef}

-- sites in order: their names, and what they are
pub record SiteTable : Type 0 where
  pub names : List (List ℕ)
  pub sites : List SiteDef

abbrev pub no_sites : SiteTable
no_sites = record { names = []; sites = [] }

-- an address of 32 bits, of which no more than 32 are the network's, and the bits after those are zero: RFC 4632, section 3.1
abbrev pub is_lawful_prefix : AddressBlock → Bool
is_lawful_prefix prefix = (nat_lt prefix.address (2 ^ 32) && nat_le prefix.length 32) && (prefix.address % 2 ^ (32 - prefix.length) == 0)

-- a prefix that stands in a VRF
abbrev pub Static : Type 0
Static = ℕ × AddressBlock

abbrev pub in_vrf : ℕ → List AddressBlock → List Static
in_vrf vrf prefixes = map (λ prefix. (vrf, prefix)) prefixes

-- the prefixes of the sites, each with the VRF that it stands in
abbrev pub statics_of : List SiteDef → List Static
statics_of sites = flat_map (λ site. in_vrf site.vrf.0 site.prefixes) sites

-- the prefix stands in the VRF
abbrev pub stands : List Static → ℕ → AddressBlock → Bool
stands statics vrf prefix = list_any (λ static. vrf == static.0 && same_prefix prefix static.1) statics

-- one of the prefixes stands in the VRF already, there or among those before it
abbrev pub is_one_taken : List AddressBlock → List Static → ℕ → Bool
is_one_taken [] statics vrf = false
is_one_taken (prefix ∷ prefixes) statics vrf = stands statics vrf prefix || is_one_taken prefixes (statics ++ (vrf, prefix) ∷ []) vrf
