-- What a packet may come to where it is looked up in a VRF: RFC 4364, sections 4.3 and 5, and RFC 4271, section 9.1.2.
use Rattle.std.specs.Prelude.{ℕ, zero, suc, ◌==◌, ◌&&◌, ◌||◌, Bool, true, false, not, if◌then◌else◌, List, [], ◌∷◌, ◌++◌, map, filter, length}
use Rattle.std.specs.Prelude.{Some, None, is_some}
use Rattle.std.specs.List.{flat_map, list_any}
use Rattle.mn_topo.specs.Network.{Network}
use Rattle.mn_ledger.specs.World.{Config}
use Rattle.mn_ledger.specs.Held.{HeldRoute, best}
use Rattle.mn_ledger.specs.Eligible.{covers, only_if}
use Rattle.mn_reach_laws.specs.Fates.{routes_at_rest}
use Rattle.mn_profile.specs.declared.switches.Profile.{Profile}
use Rattle.mn_profile_laws.specs.Profiles.{asks_links}
use Rattle.mn_profile_laws.specs.Paths.{cost_to, lsps, some_lead, surely_lead}

-- 1. Routes that take part

-- links lead to the route's edge
abbrev pub links_lead : Network → Config → ℕ → HeldRoute → Bool
links_lead topology config edge route = is_some (cost_to topology config edge route.edge)

-- labels lead there, by some choice of next hops
abbrev pub labels_lead : Network → Profile → Config → ℕ → HeldRoute → Bool
labels_lead topology profile config edge route = some_lead topology profile config edge route.edge

abbrev pub is_resolved : Network → Profile → Config → ℕ → HeldRoute → Bool
is_resolved topology profile config edge route =
    if asks_links profile.resolve then links_lead topology config edge route else labels_lead topology profile config edge route

-- of the VRF's routes those that are resolved, where they are to be and one that contains the address is; else all
abbrev pub taking_part : Network → Profile → Config → ℕ → ℕ → ℕ → List HeldRoute
taking_part topology profile config edge v address =
    only_if ((asks_links profile.resolve || topology.resolve)
    && list_any (covers address) (filter (is_resolved topology profile config edge) (routes_at_rest topology config edge v)))
    (is_resolved topology profile config edge) (routes_at_rest topology config edge v)

-- 2. The route that is chosen

-- by some choices of next hops labels lead to its edge, and by others they don't
abbrev pub may_stand_aside : Network → Profile → Config → ℕ → HeldRoute → Bool
may_stand_aside topology profile config edge route =
    topology.resolve && (some_lead topology profile config edge route.edge && not (surely_lead topology profile config edge route.edge))

-- its next hop is another edge
abbrev pub is_elsewhere : HeldRoute → HeldRoute → Bool
is_elsewhere route other = not (other.edge == route.edge)

-- the best of these routes; and where it may stand aside, the best of those of other edges, and so on
abbrev pub best_in_turn : ℕ → (HeldRoute → Bool) → ℕ → List HeldRoute → List HeldRoute
best_in_turn zero aside address routes = []
best_in_turn (suc more) aside address routes =
    elim (best routes address) [
      | None ↦ []
      | Some route ↦ route ∷ elim (aside route) [ true ↦ best_in_turn more aside address (filter (is_elsewhere route) routes) | false ↦ [] ]
    ]

-- each time one is left out, so there are no more than this
abbrev pub all_in_turn : (HeldRoute → Bool) → ℕ → List HeldRoute → List HeldRoute
all_in_turn aside address routes = best_in_turn (suc (length routes)) aside address routes

-- the routes of which one is used, each by some choices
abbrev pub chosen : Network → Profile → Config → ℕ → ℕ → ℕ → List HeldRoute
chosen topology profile config edge v address =
    all_in_turn (may_stand_aside topology profile config edge) address (taking_part topology profile config edge v address)

-- 3. What it comes to

pub data Turn : Type 0 where
  Unrouted : Turn  -- no route contains the address
  Unlabelled : Turn  -- one does, and no label leads to its edge
  Along : (route : HeldRoute) → (nodes : List ℕ) → Turn  -- by this route, over these nodes

abbrev pub along_each : Network → Profile → Config → ℕ → HeldRoute → List Turn
along_each topology profile config edge route = map (λ nodes. Along route nodes) (lsps topology profile config edge route.edge)

-- where labels surely lead to the edge of one of them no packet is left without a label
abbrev pub unlabelled : Bool → List Turn
unlabelled true = []
unlabelled false = Unlabelled ∷ []

abbrev pub turns_by : Network → Profile → Config → ℕ → List HeldRoute → List Turn
turns_by topology profile config edge [] = Unrouted ∷ []
turns_by topology profile config edge (route ∷ routes) =
    flat_map (along_each topology profile config edge) (route ∷ routes)
    ++ unlabelled (list_any (λ chosen. surely_lead topology profile config edge chosen.edge) (route ∷ routes))

-- of a packet for this address, in a VRF of an edge
abbrev pub turns : Network → Profile → Config → ℕ → ℕ → ℕ → List Turn
turns topology profile config edge v address = turns_by topology profile config edge (chosen topology profile config edge v address)
