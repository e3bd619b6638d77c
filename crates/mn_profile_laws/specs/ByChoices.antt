-- What becomes of a packet where all nodes have chosen: one next hop towards each node.
use Rattle.std.specs.Prelude.{ℕ, ◌&&◌, Bool, List, [], ◌∷◌, filter, Option, Some, None, is_some}
use Rattle.std.specs.List.{list_any}
use Rattle.mn_drops.specs.declared.drops.Rule.TheVariants as rule
use Rattle.mn_topo.specs.Network.{Network}
use Rattle.mn_ledger.specs.Places.{home_of, vrf_of}
use Rattle.mn_ledger.specs.World.{Config}
use Rattle.mn_ledger.specs.Held.{HeldRoute, best}
use Rattle.mn_ledger.specs.Eligible.{covers, only_if}
use Rattle.mn_fate_laws.specs.Fate.{Fate, Falls}
use Rattle.mn_reach_laws.specs.Fates.{routes_at_rest, ends_over}
use Rattle.mn_profile.specs.declared.switches.Profile.{Profile}
use Rattle.mn_profile_laws.specs.Choices.{Choice, Chooses, chosen_lsp}

-- by the node to which packets go
abbrev pub Choices : Type 0
Choices = ℕ → Choice

abbrev pub AllChoose : Network → Profile → Config → Choices → Type 0
AllChoose topology profile config choices = (to : ℕ) → Chooses topology profile config to (choices to)

-- the path to an edge by them
abbrev pub path_by : Network → Config → Choices → ℕ → ℕ → Option (List ℕ)
path_by topology config choices node to = chosen_lsp topology config (choices to) node to

-- a path leads to the route's edge
abbrev pub is_reached_by : Network → Config → Choices → ℕ → HeldRoute → Bool
is_reached_by topology config choices edge route = is_some (path_by topology config choices edge route.edge)

-- the best of the VRF's routes that take part by them
abbrev pub route_by : Network → Config → Choices → ℕ → ℕ → ℕ → Option HeldRoute
route_by topology config choices edge v address =
    best
    (only_if (topology.resolve && list_any (covers address) (filter (is_reached_by topology config choices edge) (routes_at_rest topology config edge v)))
    (is_reached_by topology config choices edge) (routes_at_rest topology config edge v))
    address

abbrev pub ends_by_choice : Network → Config → Choices → ℕ → ℕ → Option HeldRoute → Fate
ends_by_choice topology config choices home ttl None = Falls rule.NoRoute home (home ∷ [])
ends_by_choice topology config choices home ttl (Some route) = ends_over home ttl route (path_by topology config choices home route.edge)

-- of a packet that is sent at the site with this TTL for this address
abbrev pub fate_by : Network → Config → Choices → ℕ → ℕ → ℕ → Fate
fate_by topology config choices s ttl address =
    ends_by_choice topology config choices (home_of topology s) ttl (route_by topology config choices (home_of topology s) (vrf_of topology s) address)
