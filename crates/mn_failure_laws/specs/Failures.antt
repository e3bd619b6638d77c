-- The configuration of a network under a failure: what the topology says, without the links, the LDP and the sessions that are gone.
use Rattle.std.specs.Prelude.{◌≡◌, ◌≢◌, ◌<◌, ◌==◌, ◌&&◌, ◌||◌, ℕ, Bool, false, not, nat_lt, if◌then◌else◌, map, length, is_some}
use Rattle.std.specs.List.{Contains}
use Rattle.mn_wiring.specs.Wiring.{View, links_of}
use Rattle.mn_wiring.specs.Paths.{dist_in, dists_to}
use Rattle.mn_topo.specs.Network.{Network, wiring_of}
use Rattle.mn_ledger.specs.Tables.{everywhere}
use Rattle.mn_ledger.specs.Places.{edges}
use Rattle.mn_ledger.specs.World.{Config}
use Rattle.mn_ledger.specs.Bgp.{peers_live}
use Rattle.mn_ledger.specs.Held.{HeldRoute}
use Rattle.mn_ledger.specs.Ledger.{first_config}
use Rattle.mn_reach_laws.specs.Fates.{up_links}
use Rattle.mn_reach_laws.specs.Candidates.{is_told}

-- 1. What is gone

-- any number of these at once
pub record Failure : Type 0 where
  pub is_down : ℕ → Bool  -- by link
  pub ldp_off : ℕ → Bool  -- by link
  pub bgp_off : ℕ → ℕ → Bool  -- by two edges, the lesser number first
  pub ends : Bool  -- sessions between edges that no links join have ended too

abbrev pub no_failure : Failure
no_failure = record { is_down = everywhere false; ldp_off = everywhere false; bgp_off = everywhere (everywhere false); ends = false }

-- 2. What is left

-- the links that are up
abbrev pub links_left : Network → Failure → View
links_left topology failure = map (λ l. not (failure.is_down l)) (links_of (wiring_of topology))

-- links that are up lead from the one node to the other
abbrev pub links_lead : Network → Failure → ℕ → ℕ → Bool
links_lead topology failure one other = is_some (dist_in (dists_to (wiring_of topology) (links_left topology failure) other) one)

-- the session of two edges, the lesser number first
abbrev pub is_session_left : Network → Failure → ℕ → ℕ → Bool
is_session_left topology failure one other = not (failure.bgp_off one other) && (not failure.ends || links_lead topology failure one other)

-- all links are up, all LDP is on and all edges have sessions, but for those; targets, statics and attachments are the topology's
abbrev pub config_under : Network → Failure → Config
config_under topology failure = record (first_config topology) {
  is_up = λ l. not (failure.is_down l);
  ldp_on = λ l. not (failure.ldp_off l);
  bgp_on = is_session_left topology failure;
}

-- 3. Configurations that are this one

-- of each link, of any two edges, of each VRF and of each site of the topology: a configuration speaks of no others
pub record IsUnder (topology : Network) (config : Config) (failure : Failure) : Type 0 where
  pub links : (l : ℕ) → l < length topology.links → config.is_up l ≡ not (failure.is_down l)
  pub ldp : (l : ℕ) → l < length topology.links → config.ldp_on l ≡ not (failure.ldp_off l)
  pub sessions : (edge peer : ℕ) → edge ≢ peer → Contains (edges topology) edge → Contains (edges topology) peer →
      peers_live config edge peer ≡ peers_live (config_under topology failure) edge peer
  pub imports : (v : ℕ) → v < length topology.vrfs → config.imports v ≡ (first_config topology).imports v
  pub exports : (v : ℕ) → v < length topology.vrfs → config.exports v ≡ (first_config topology).exports v
  pub statics : config.statics ≡ (first_config topology).statics
  pub attached : (s : ℕ) → s < length topology.sites → config.attached s ≡ (first_config topology).attached s

-- 4. Failures that are the same of all that there is

-- of each link and of the session of any two edges
pub record AreAlike (topology : Network) (failure other : Failure) : Type 0 where
  pub links : (l : ℕ) → l < length topology.links → failure.is_down l ≡ other.is_down l
  pub ldp : (l : ℕ) → l < length topology.links → failure.ldp_off l ≡ other.ldp_off l
  pub sessions : (edge peer : ℕ) → edge < peer → Contains (edges topology) edge → Contains (edges topology) peer →
      failure.bgp_off edge peer ≡ other.bgp_off edge peer
  pub ends : failure.ends ≡ other.ends

-- 5. The same from either end

-- the session of two edges was ended
abbrev pub is_session_off : Failure → ℕ → ℕ → Bool
is_session_off failure one other = if nat_lt one other then failure.bgp_off one other else failure.bgp_off other one

-- two nodes have a session: it wasn't ended, and where such sessions end links lead to the other node
abbrev pub have_session : Network → Failure → ℕ → ℕ → Bool
have_session topology failure one other = not (is_session_off failure one other) && (not failure.ends || links_lead topology failure one other)

-- What the words on configurations say of this one
pub record SaysWhatIsLeft (topology : Network) (failure : Failure) : Type 0 where
  pub links : up_links topology (config_under topology failure) ≡ links_left topology failure
  pub leads : (one other : ℕ) → one < length topology.loopbacks → other < length topology.loopbacks →
      links_lead topology failure one other ≡ links_lead topology failure other one
  pub sessions : (one other : ℕ) → one < length topology.loopbacks → other < length topology.loopbacks →
      peers_live (config_under topology failure) one other ≡ have_session topology failure one other
  pub told : (edge : ℕ) (route : HeldRoute) → edge < length topology.loopbacks → route.edge < length topology.loopbacks →
      is_told (config_under topology failure) edge route ≡ ((route.edge == edge) || have_session topology failure edge route.edge)
