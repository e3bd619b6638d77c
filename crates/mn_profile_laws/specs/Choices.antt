-- Next hops that nodes have chosen towards one of them: RFC 3031, section 3.11, leaves the choice to each.
use Rattle.std.specs.Prelude.{◌≡◌, ◌≢◌, ◌<◌, ◌==◌, ℕ, zero, suc, true, false, cond, List, [], ◌∷◌, length, Option, Some, None}
use Rattle.std.specs.List.{Contains}
use Rattle.mn_wiring.specs.Wiring.{Wiring, across}
use Rattle.mn_wiring.specs.Paths.{walk_end, cost_of}
use Rattle.mn_topo.specs.Network.{Network, wiring_of}
use Rattle.mn_ledger.specs.World.{Config}
use Rattle.mn_reach_laws.specs.Fates.{up_links, over_hop}
use Rattle.mn_profile.specs.declared.switches.Profile.{Profile}
use Rattle.mn_profile_laws.specs.Paths.{hops, cost_to, lsps, some_lead, all_lead}

-- 1. Choices

-- by node, the neighbour to which it sends, and the link to it
abbrev pub Choice : Type 0
Choice = ℕ → Option (ℕ × ℕ)

-- one of these; none where there are none
abbrev pub IsAmong : List (ℕ × ℕ) → Option (ℕ × ℕ) → Type 0
IsAmong hops None = hops ≡ []
IsAmong hops (Some hop) = Contains hops hop

-- each node but that one has chosen among its next hops, whichever it is
abbrev pub Chooses : Network → Profile → Config → ℕ → Choice → Type 0
Chooses topology profile config to choice = (node : ℕ) → node ≢ to → IsAmong (hops topology profile config node to) (choice node)

-- each node has chosen a next hop that gave it a label, where one did: LDP is on on the link to it, and labels lead on from there
pub record TakesLabelled (topology : Network) (profile : Profile) (config : Config) (to : ℕ) (choice : Choice) (node : ℕ) : Type 0 where
  pub hop : ℕ × ℕ
  pub taken : choice node ≡ Some hop
  pub among : Contains (hops topology profile config node to) hop
  pub on : config.ldp_on hop.1 ≡ true
  pub leads : some_lead topology profile config hop.0 to ≡ true

abbrev pub ChoosesLabelled : Network → Profile → Config → ℕ → Choice → Type 0
ChoosesLabelled topology profile config to choice =
    (node : ℕ) → node < length topology.loopbacks → node ≢ to → some_lead topology profile config node to ≡ true →
    TakesLabelled topology profile config to choice node

-- 2. The path by a choice

-- its nodes, if they are at most so many, and LDP is on on each of its links
abbrev pub chosen_within : Config → Choice → ℕ → ℕ → ℕ → Option (List ℕ)
chosen_within config choice zero node to = None
chosen_within config choice (suc more) node to =
    cond (node == to) (Some (node ∷ [])) (over_hop config node (λ hop. chosen_within config choice more hop to) (choice node))

abbrev pub chosen_by : Config → Choice → ℕ → ℕ → Option ℕ → Option (List ℕ)
chosen_by config choice node to None = None
chosen_by config choice node to (Some cost) = chosen_within config choice (suc cost) node to

abbrev pub chosen_lsp : Network → Config → Choice → ℕ → ℕ → Option (List ℕ)
chosen_lsp topology config choice node to = chosen_by config choice node to (cost_to topology config node to)

-- 3. What is told of all choices

-- the path of each is among those that are told; where all lead each has one, and where none leads none has
pub record CoversEachChoice (topology : Network) (profile : Profile) (config : Config) (node to : ℕ) (choice : Choice) : Type 0 where
  pub told : (nodes : List ℕ) → chosen_lsp topology config choice node to ≡ Some nodes → Contains (lsps topology profile config node to) nodes
  pub all : all_lead topology profile config node to ≡ true → (nodes : List ℕ) × (chosen_lsp topology config choice node to ≡ Some nodes)
  pub none : some_lead topology profile config node to ≡ false → chosen_lsp topology config choice node to ≡ None

-- each path that is told is that of some choice; and where not all lead some choice has none
pub record TellsOfChoices (topology : Network) (profile : Profile) (config : Config) (node to : ℕ) : Type 0 where
  pub by_one : (nodes : List ℕ) → Contains (lsps topology profile config node to) nodes →
      (choice : Choice) × Chooses topology profile config to choice × (chosen_lsp topology config choice node to ≡ Some nodes)
  pub falls : all_lead topology profile config node to ≡ false →
      (choice : Choice) × Chooses topology profile config to choice × (chosen_lsp topology config choice node to ≡ None)

-- 4. Arrival

-- the nodes at the far ends of these links, one after another
abbrev pub nodes_over : Wiring → ℕ → List ℕ → List ℕ
nodes_over wiring node [] = []
nodes_over wiring node (l ∷ ls) = across wiring l node ∷ nodes_over wiring (across wiring l node) ls

-- LDP is on wherever a link is up
abbrev pub HasLdpWhereUp : Network → Config → Type 0
HasLdpWhereUp topology config = (l : ℕ) → l < length topology.links → config.is_up l ≡ true → config.ldp_on l ≡ true

-- the path of the choice leads there, over a walk of this cost
pub record ArrivesAtCost (topology : Network) (config : Config) (choice : Choice) (node to cost : ℕ) : Type 0 where
  pub nodes : List ℕ
  pub links : List ℕ
  pub path : chosen_lsp topology config choice node to ≡ Some nodes
  pub over : nodes ≡ node ∷ nodes_over (wiring_of topology) node links
  pub walk : walk_end (wiring_of topology) (up_links topology config) node links ≡ Some to
  pub costs : cost_of (wiring_of topology) links ≡ cost
