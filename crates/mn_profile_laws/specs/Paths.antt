-- Label switched paths where nodes choose among next hops of equal cost: RFC 2328, section 16.1, and RFC 3031, section 3.11. The network is
-- one as a profile has it.
use Rattle.std.specs.Prelude.{ℕ, zero, suc, ◌==◌, ◌&&◌, ◌||◌, Bool, true, false, List, [], ◌∷◌, map, filter, Option, Some, None}
use Rattle.std.specs.List.{flat_map, list_all}
use Rattle.mn_wiring.specs.Wiring.{Wiring, View, across, links_at}
use Rattle.mn_wiring.specs.Paths.{dist_in, dists_to, is_on_least, next}
use Rattle.mn_topo.specs.Network.{Network, wiring_of}
use Rattle.mn_ledger.specs.World.{Config}
use Rattle.mn_reach_laws.specs.Fates.{up_links}
use Rattle.mn_profile.specs.declared.switches.EqualCost.{EqualCost}
use Rattle.mn_profile.specs.declared.switches.EqualCost.TheVariants as equal_cost
use Rattle.mn_profile.specs.declared.switches.Profile.{Profile}

-- 1. Next hops

abbrev pub list_of : Option (ℕ × ℕ) → List (ℕ × ℕ)
list_of None = []
list_of (Some hop) = hop ∷ []

-- a neighbour, and the link to it
abbrev pub hop_over : Wiring → ℕ → ℕ → ℕ × ℕ
hop_over wiring node l = (across wiring l node, l)

-- all neighbours to which a least walk goes first
abbrev pub equal_hops : Wiring → View → ℕ → ℕ → List (ℕ × ℕ)
equal_hops wiring view node to = map (hop_over wiring node) (filter (is_on_least wiring view (dists_to wiring view to) node) (links_at wiring node))

abbrev pub hops_by : EqualCost → Wiring → View → ℕ → ℕ → List (ℕ × ℕ)
hops_by equal_cost.Least wiring view node to = list_of (next wiring view node to)
hops_by equal_cost.All wiring view node to = equal_hops wiring view node to
hops_by equal_cost.Any wiring view node to = equal_hops wiring view node to

-- the next hops among which a node chooses
abbrev pub hops : Network → Profile → Config → ℕ → ℕ → List (ℕ × ℕ)
hops topology profile config node to = hops_by profile.equal (wiring_of topology) (up_links topology config) node to

-- what it costs to come there
abbrev pub cost_to : Network → Config → ℕ → ℕ → Option ℕ
cost_to topology config node to = dist_in (dists_to (wiring_of topology) (up_links topology config) to) node

-- 2. Label switched paths: a node has given its neighbours a label where a next hop of its own has given it one, as with ordered
-- control (RFC 5036, section 2.6.1.2)

-- over a next hop, where LDP is on on the link to it
abbrev pub over_each : Config → ℕ → (ℕ → List (List ℕ)) → ℕ × ℕ → List (List ℕ)
over_each config node rest hop = elim (config.ldp_on hop.1) [ true ↦ map (λ nodes. node ∷ nodes) (rest hop.0) | false ↦ [] ]

-- the nodes of each path from this one to another, if they are at most so many
abbrev pub lsps_within : Network → Profile → Config → ℕ → ℕ → ℕ → List (List ℕ)
lsps_within topology profile config zero node to = []
lsps_within topology profile config (suc more) node to =
    elim (node == to) [
      | true ↦ (node ∷ []) ∷ []
      | false ↦ flat_map (over_each config node (λ hop. lsps_within topology profile config more hop to)) (hops topology profile config node to)
    ]

-- no link costs less than 1, so a least walk has no more nodes than its cost and one
abbrev pub lsps_by : Network → Profile → Config → ℕ → ℕ → Option ℕ → List (List ℕ)
lsps_by topology profile config node to None = []
lsps_by topology profile config node to (Some cost) = lsps_within topology profile config (suc cost) node to

abbrev pub lsps : Network → Profile → Config → ℕ → ℕ → List (List ℕ)
lsps topology profile config node to = lsps_by topology profile config node to (cost_to topology config node to)

-- 3. Whether labels lead there

abbrev pub has_some : {A : Type 0} → List A → Bool
has_some [] = false
has_some (x ∷ xs) = true

-- by some choice of next hops
abbrev pub some_lead : Network → Profile → Config → ℕ → ℕ → Bool
some_lead topology profile config node to = has_some (lsps topology profile config node to)

-- LDP is on on the link to the next hop, and it goes on there
abbrev pub leads_over : Config → (ℕ → Bool) → ℕ × ℕ → Bool
leads_over config rest hop = config.ldp_on hop.1 && rest hop.0

-- by every choice: there is a next hop, and over each it goes on
abbrev pub all_lead_within : Network → Profile → Config → ℕ → ℕ → ℕ → Bool
all_lead_within topology profile config zero node to = false
all_lead_within topology profile config (suc more) node to =
    (node == to)
    || (has_some (hops topology profile config node to)
    && list_all (leads_over config (λ hop. all_lead_within topology profile config more hop to)) (hops topology profile config node to))

abbrev pub all_lead_by : Network → Profile → Config → ℕ → ℕ → Option ℕ → Bool
all_lead_by topology profile config node to None = false
all_lead_by topology profile config node to (Some cost) = all_lead_within topology profile config (suc cost) node to

abbrev pub all_lead : Network → Profile → Config → ℕ → ℕ → Bool
all_lead topology profile config node to = all_lead_by topology profile config node to (cost_to topology config node to)

abbrev pub sure_by : EqualCost → Bool → Bool → Bool
sure_by equal_cost.Least some all = some
sure_by equal_cost.All some all = some
sure_by equal_cost.Any some all = all

-- no packet falls for want of a label: each goes to a next hop that gave one; or each node has taken one of them, whether or not it did
abbrev pub surely_lead : Network → Profile → Config → ℕ → ℕ → Bool
surely_lead topology profile config node to =
    sure_by profile.equal (some_lead topology profile config node to) (all_lead topology profile config node to)
