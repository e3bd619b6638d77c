-- All ways of a packet: over each leg from an edge to another, and through each VRF in which it is looked up.
use Rattle.std.specs.Prelude.{ℕ, zero, suc, ◌-◌, ◌+◌, ◌==◌, ◌&&◌, Bool, true, false, not, nat_lt, List, [], ◌∷◌, ◌++◌, map, length, drop}
use Rattle.std.specs.List.{flat_map}
use Rattle.mn_drops.specs.declared.drops.Rule.TheVariants as rule
use Rattle.mn_topo.specs.Network.{Network}
use Rattle.mn_ledger.specs.Places.{edge_of, vrf_of}
use Rattle.mn_ledger.specs.World.{Config}
use Rattle.mn_ledger.specs.Held.{HeldRoute}
use Rattle.mn_fate_laws.specs.Fate.{Fate, Arrives, Falls}
use Rattle.mn_reach_laws.specs.Fates.{ends_along}
use Rattle.mn_failure_laws.specs.Failures.{Failure, config_under}
use Rattle.mn_profile.specs.declared.switches.LabelMode.{LabelMode}
use Rattle.mn_profile.specs.declared.switches.LabelMode.TheVariants.{PerSite, PerVrf}
use Rattle.mn_profile.specs.declared.switches.Profile.{Profile}
use Rattle.mn_profile_laws.specs.Profiles.{network_under}
use Rattle.mn_profile_laws.specs.Lookups.{Turn, Unrouted, Unlabelled, Along, turns}

-- 1. How a way ends

-- as the ledger has it; or by being looked up more often than there are VRFs, so that it goes round until its TTL is spent
pub data Way : Type 0 where
  Ends : (fate : Fate) → Way
  Loops : (node : ℕ) → (path : List ℕ) → Way

-- a path goes on at the node where these end
abbrev pub joined : List ℕ → List ℕ → List ℕ
joined nodes path = nodes ++ drop 1 path

abbrev pub fate_behind : List ℕ → Fate → Fate
fate_behind nodes (Arrives site ttl path) = Arrives site ttl (joined nodes path)
fate_behind nodes (Falls cause node path) = Falls cause node (joined nodes path)

abbrev pub behind : List ℕ → Way → Way
behind nodes (Ends fate) = Ends (fate_behind nodes fate)
behind nodes (Loops node path) = Loops node (joined nodes path)

-- 2. One leg

-- the label of another edge's route stands for its VRF, in which the packet is looked up again: RFC 4364, section 4.3.2
abbrev pub is_looked_up : LabelMode → ℕ → HeldRoute → Bool
is_looked_up PerSite edge route = false
is_looked_up PerVrf edge route = not (route.edge == edge)

-- what it comes to, of a packet with this TTL in a VRF of an edge. It is looked up again as one that enters there: of its TTL that edge
-- has taken its own already (RFC 3443, section 3.1)
abbrev pub ways_by : Network → Profile → ℕ → ℕ → (ℕ → ℕ → List Way) → Turn → List Way
ways_by topology profile edge ttl again Unrouted = Ends (Falls rule.NoRoute edge (edge ∷ [])) ∷ []
ways_by topology profile edge ttl again Unlabelled = Ends (Falls rule.NoLsp edge (edge ∷ [])) ∷ []
ways_by topology profile edge ttl again (Along route nodes) =
    elim (is_looked_up profile.labels edge route && nat_lt (length nodes) ttl) [
      | true ↦ map (behind nodes) (again (ttl - length nodes + 1) (vrf_of topology route.site))
      | false ↦ Ends (ends_along route ttl nodes) ∷ []
    ]

-- 3. All legs

-- of a packet for this address that comes with this TTL to a VRF, where it may be looked up so often
abbrev pub ways_from : ℕ → Network → Profile → Config → ℕ → ℕ → ℕ → List Way
ways_from zero topology profile config address ttl v = Loops (edge_of topology v) (edge_of topology v ∷ []) ∷ []
ways_from (suc more) topology profile config address ttl v =
    flat_map (ways_by topology profile (edge_of topology v) ttl (ways_from more topology profile config address))
    (turns topology profile config (edge_of topology v) v address)

abbrev pub ways_in : Network → Profile → Config → ℕ → ℕ → ℕ → List Way
ways_in topology profile config s ttl address = ways_from (suc (length topology.vrfs)) topology profile config address ttl (vrf_of topology s)

-- of a packet that is sent at the site with this TTL for this address, once the network is at rest under the failure
abbrev pub ways_under : Network → Profile → Failure → ℕ → ℕ → ℕ → List Way
ways_under topology profile failure s ttl address =
    ways_in (network_under topology profile (config_under topology failure)) profile (config_under topology failure) s ttl address
