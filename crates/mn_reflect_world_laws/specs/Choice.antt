-- What a node picks of a route among what its peers announced, and what a reflector offers a peer of it. RFC 4456, sections 6 and 8.
use Rattle.std.specs.Prelude.{ℕ, ◌==◌, not, if◌then◌else◌, List, [], ◌∷◌, map, filter, slice_index_or, Option, None, option_map}
use Rattle.std.specs.List.{flat_map}
use Rattle.mn_topo.specs.Network.{Network}
use Rattle.mn_ledger.specs.Places.{loopback, edge_of}
use Rattle.mn_offers.specs.Heard.{Heard, heard_at}
use Rattle.mn_reflect_ledger_laws.specs.Words.{Key, in_order}
use Rattle.mn_reflect_ledger_laws.specs.Picks.{or_else, is_reflector}

-- by peer, what a node keeps
abbrev pub Row : Type 0
Row = ℕ → List Heard

abbrev pub row_at : List (List (List Heard)) → ℕ → Row
row_at heard node peer = slice_index_or (slice_index_or heard node []) peer []

-- what a peer announced of a route
abbrev pub kept_of : Row → Key → ℕ → Option Heard
kept_of row key peer = heard_at key.vrf key.prefix (row peer)

-- of these peers the first that announced it
abbrev pub first_kept : Row → Key → List ℕ → Option Heard
first_kept row key [] = None
first_kept row key (peer ∷ peers) = or_else (kept_of row key peer) (first_kept row key peers)

-- what the reflector of least address announced, of those by address that aren't the node itself
abbrev pub reflected_to : List ℕ → Row → ℕ → Key → Option Heard
reflected_to reflectors row node key = first_kept row key (filter (λ other. not (other == node)) reflectors)

-- what the route's edge announced, or else a reflector
abbrev pub picked_by : Network → List ℕ → Row → ℕ → Key → Option Heard
picked_by topology reflectors row node key = or_else (kept_of row key (edge_of topology key.vrf)) (reflected_to reflectors row node key)

-- with the reflector's address in front of the clusters
abbrev pub passed_on : Network → ℕ → Heard → Heard
passed_on topology node route = record route { clusters = loopback topology node ∷ route.clusters }

-- what a reflector offers: to another what the edge announced, and to an edge what it picked for VRFs of other edges
abbrev pub offered_of : Network → List ℕ → Row → ℕ → ℕ → Key → Option Heard
offered_of topology reflectors row node peer key =
    option_map (passed_on topology node)
    (if is_reflector reflectors peer then kept_of row key (edge_of topology key.vrf)
    else if edge_of topology key.vrf == peer then None
    else picked_by topology reflectors row node key)

-- the names of what is kept
abbrev pub names_in : List Heard → List Key
names_in routes = map (λ route. record { vrf = route.vrf; prefix = route.prefix }) routes

-- and of all that a node keeps, in order, each once
abbrev pub all_names : List (List Heard) → List Key
all_names rows = in_order (flat_map names_in rows)
