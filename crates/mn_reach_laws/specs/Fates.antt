-- What becomes of a packet in a network at rest: a function of what is configured, and of nothing that happened.
use Rattle.std.specs.Prelude.{ℕ, zero, suc, ◌-◌, ◌==◌, ◌&&◌, Bool, cond, not, nat_lt, List, [], ◌∷◌, ◌++◌, map, filter, length, take, slice_index_or}
use Rattle.std.specs.Prelude.{Option, Some, None, is_some}
use Rattle.std.specs.List.{flat_map, list_any}
use Rattle.mn_drops.specs.declared.drops.Rule.{Rule}
use Rattle.mn_drops.specs.declared.drops.Rule.TheVariants as rule
use Rattle.mn_wiring.specs.Wiring.{View, links_of}
use Rattle.mn_wiring.specs.Paths.{dist_in, dists_to, next}
use Rattle.mn_ipv4.specs.Header.{ttl_of, destination_of}
use Rattle.mn_topo.specs.Network.{Network, wiring_of}
use Rattle.mn_ledger.specs.Entry.{first_rule}
use Rattle.mn_ledger.specs.Places.{home_of, vrf_of, edges}
use Rattle.mn_ledger.specs.World.{Config}
use Rattle.mn_ledger.specs.Bgp.{peers_live}
use Rattle.mn_ledger.specs.Held.{HeldRoute, own_routes, near_routes, best}
use Rattle.mn_ledger.specs.Eligible.{covers, only_if}
use Rattle.mn_ledger.specs.Packets.{entry_rules}
use Rattle.mn_settled_laws.specs.Routes.{exported_by}
use Rattle.mn_fate_laws.specs.Fate.{Fate, Arrives, Falls}

-- 1. Label switched paths

-- the links that are up
abbrev pub up_links : Network → Config → View
up_links topology config = map config.is_up (links_of (wiring_of topology))

-- this node, and then these
abbrev pub before : ℕ → Option (List ℕ) → Option (List ℕ)
before node None = None
before node (Some nodes) = Some (node ∷ nodes)

-- by the next hop, where LDP is on on the link to it
abbrev pub over_hop : Config → ℕ → (ℕ → Option (List ℕ)) → Option (ℕ × ℕ) → Option (List ℕ)
over_hop config node rest None = None
over_hop config node rest (Some hop) = cond (config.ldp_on hop.1) (before node (rest hop.0)) None

-- the nodes from this one to another, each the next hop of the one before, if there are at most so many
abbrev pub lsp_within : Network → Config → ℕ → ℕ → ℕ → Option (List ℕ)
lsp_within topology config zero node to = None
lsp_within topology config (suc more) node to =
    cond (node == to) (Some (node ∷ []))
    (over_hop config node (λ hop. lsp_within topology config more hop to) (next (wiring_of topology) (up_links topology config) node to))

abbrev pub lsp_by : Network → Config → ℕ → ℕ → Option ℕ → Option (List ℕ)
lsp_by topology config node to None = None
lsp_by topology config node to (Some cost) = lsp_within topology config (suc cost) node to

-- no link costs less than 1, so a least walk has no more nodes than its cost and one
abbrev pub lsp : Network → Config → ℕ → ℕ → Option (List ℕ)
lsp topology config node to = lsp_by topology config node to (dist_in (dists_to (wiring_of topology) (up_links topology config) to) node)

-- 2. Routes

-- the VRF's attached statics; and of the exports of all other VRFs, at its own edge and at those with which it has a session,
-- those whose targets meet its import set
abbrev pub routes_at_rest : Network → Config → ℕ → ℕ → List HeldRoute
routes_at_rest topology config edge v =
    own_routes topology config edge v
    ++ (near_routes topology config edge v
    ++ flat_map (exported_by topology config v) (filter (λ peer. not (peer == edge) && peers_live config edge peer) (edges topology)))

-- a label switched path leads to the route's edge
abbrev pub is_reached : Network → Config → ℕ → HeldRoute → Bool
is_reached topology config edge route = is_some (lsp topology config edge route.edge)

-- of these those that take part where the best for an address is sought
abbrev pub taking_part : Network → Config → ℕ → ℕ → ℕ → List HeldRoute
taking_part topology config edge v address =
    only_if (topology.resolve && list_any (covers address) (filter (is_reached topology config edge) (routes_at_rest topology config edge v)))
    (is_reached topology config edge) (routes_at_rest topology config edge v)

-- 3. Fates

-- over these nodes: each lowers the TTL by one, and where it came with 1 it is dropped
abbrev pub ends_along : HeldRoute → ℕ → List ℕ → Fate
ends_along route ttl nodes =
    cond (nat_lt (length nodes) ttl) (Arrives route.site (ttl - length nodes) nodes)
    (Falls rule.TtlExpired (slice_index_or nodes (ttl - 1) 0) (take ttl nodes))

abbrev pub ends_over : ℕ → ℕ → HeldRoute → Option (List ℕ) → Fate
ends_over home ttl route None = Falls rule.NoLsp home (home ∷ [])
ends_over home ttl route (Some nodes) = ends_along route ttl nodes

abbrev pub ends_towards : Network → Config → ℕ → ℕ → Option HeldRoute → Fate
ends_towards topology config home ttl None = Falls rule.NoRoute home (home ∷ [])
ends_towards topology config home ttl (Some route) = ends_over home ttl route (lsp topology config home route.edge)

abbrev pub ends_by : Network → Config → ℕ → List ℕ → Option Rule → Fate
ends_by topology config s bytes (Some cause) = Falls cause (home_of topology s) (home_of topology s ∷ [])
ends_by topology config s bytes None =
    ends_towards topology config (home_of topology s) (ttl_of bytes)
    (best (taking_part topology config (home_of topology s) (vrf_of topology s) (destination_of bytes)) (destination_of bytes))

-- what becomes of these bytes if they are sent at this site
abbrev pub verdict_at_rest : Network → Config → ℕ → List ℕ → Fate
verdict_at_rest topology config s bytes = ends_by topology config s bytes (first_rule (entry_rules (config.attached s) bytes))
