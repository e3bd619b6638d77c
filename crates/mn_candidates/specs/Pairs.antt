-- The pairs of which is told: each site, and each prefix of another site for which its VRF may have a route.
use Rattle.std.specs.Prelude.{ℕ, ◌≡◌, ◌+◌, ◌==◌, ◌&&◌, ◌||◌, Bool, not, nat_lt, if◌then◌else◌, List, [], ◌∷◌, ◌++◌, length, Option, Some, None}
use Rattle.std.specs.List.{flat_map, list_any, range_with_len}
use Rattle.mn_wiring.specs.Rt.{Rt}
use Rattle.mn_prefix.specs.Prefix.{AddressBlock, contains, same_prefix}
use Rattle.mn_topo.specs.Network.{Network}
use Rattle.mn_topo.specs.Homes.{vrf_at, site_at, vrf_of}
use Rattle.mn_ledger.specs.Entry.{is_unicast}
use Rattle.mn_candidates.specs.declared.pairs.Pair.{Pair}

-- 1. Which VRF takes routes of which: RFC 4364, section 4.3.1

-- the target is one of these
abbrev pub has_target : List Rt → Rt → Bool
has_target targets target = list_any (λ other. other.0 == target.0) targets

-- two sets of targets share one
abbrev pub share : List Rt → List Rt → Bool
share export imports = list_any (has_target imports) export

-- a VRF has its own routes, and those of another one that exports a target which it imports
abbrev pub takes_from : Network → ℕ → ℕ → Bool
takes_from topology v other = (other == v) || share (vrf_at topology other).export (vrf_at topology v).«import»

-- 2. The address to which a packet is sent

-- the first host of a prefix: its first address behind that of the network; a prefix of 31 bits has no such (RFC 3021), nor one of 32
abbrev pub host_of : AddressBlock → ℕ
host_of prefix = if nat_lt prefix.length 31 then prefix.address + 1 else prefix.address

-- 1.0.0.1, the first host of all
abbrev pub first_host : ℕ
first_host = 16777217

-- the first host of the prefix to which a packet may go; none where all its addresses are of 127.0.0.0/8, of 224.0.0.0/3 or the like
abbrev pub address_in : AddressBlock → Option ℕ
address_in prefix = if is_unicast (host_of prefix) then Some (host_of prefix) else if contains prefix first_host then Some first_host else None

-- 3. Pairs

-- the prefixes of another site, where the site's VRF takes routes of its VRF
abbrev pub prefixes_of : Network → ℕ → ℕ → List AddressBlock
prefixes_of topology s other =
    if not (other == s) && takes_from topology (vrf_of topology s) (vrf_of topology other) then (site_at topology other).prefixes else []

-- of all others, by site and in its order
abbrev pub prefixes_towards : Network → ℕ → List AddressBlock
prefixes_towards topology s = flat_map (prefixes_of topology s) (range_with_len 0 (length topology.sites))

-- each once, and none of these
abbrev pub firsts_beside : List AddressBlock → List AddressBlock → List AddressBlock
firsts_beside seen [] = []
firsts_beside seen (prefix ∷ prefixes) =
    if list_any (same_prefix prefix) seen then firsts_beside seen prefixes else prefix ∷ firsts_beside (seen ++ prefix ∷ []) prefixes

abbrev pub pair_by : ℕ → AddressBlock → Option ℕ → List Pair
pair_by s prefix None = []
pair_by s prefix (Some address) = record { site = record { 0 = s }; prefix = prefix; address = address } ∷ []

abbrev pub pair_to : ℕ → AddressBlock → List Pair
pair_to s prefix = pair_by s prefix (address_in prefix)

-- a site has no pair to a prefix of its own
abbrev pub pairs_from : Network → ℕ → List Pair
pairs_from topology s = flat_map (pair_to s) (firsts_beside (site_at topology s).prefixes (prefixes_towards topology s))

-- of all sites, in order
abbrev pub pairs_of : Network → List Pair
pairs_of topology = flat_map (pairs_from topology) (range_with_len 0 (length topology.sites))

-- 4. Pairs are put one by one

-- these prefixes were looked at: with what those after them make, the pairs are as if all were still to come
pub record Adds (s : ℕ) (prefixes seen seen_after : List AddressBlock) (pairs pairs_after : List Pair) : Type 0 where
  pub on : (rest : List AddressBlock) → pairs_after ++ flat_map (pair_to s) (firsts_beside seen_after rest)
      ≡ pairs ++ flat_map (pair_to s) (firsts_beside seen (prefixes ++ rest))

abbrev pub most_pairs : ℕ
most_pairs = 100000
