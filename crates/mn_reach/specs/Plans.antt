-- What is found once: by pair, the routes for its address in order of preference, and the links on the ways to their edges.
use Rattle.std.specs.Prelude.{ℕ, ◌≡◌, ◌<◌, true, All, List, [], map, length, replicate, slice_index_or, unwrap_or}
use Rattle.std.specs.List.{Contains, flat_map}
use Rattle.mn_base.specs.declared.numbers.NodeNo.{NodeNo}
use Rattle.mn_wiring.specs.Wiring.{View}
use Rattle.mn_wiring.specs.declared.links.LinkEnds.{LinkEnds}
use Rattle.mn_topo.specs.Network.{Network, wiring_of}
use Rattle.mn_topo.specs.Homes.{vrf_of, home_of}
use Rattle.mn_topo.specs.Lawful.{IsLawful}
use Rattle.mn_ledger.specs.Places.{edges}
use Rattle.mn_ledger.specs.Held.{HeldRoute}
use Rattle.mn_reach_laws.specs.Candidates.{AreCandidates}
use Rattle.mn_failure_laws.specs.Failures.{no_failure, config_under}
use Rattle.mn_candidates.specs.declared.pairs.Pair.{Pair}
use Rattle.mn_candidates.specs.Routes.{held_as}
use Rattle.mn_way.specs.Way.{way, links_on}
use Rattle.mn_reach.specs.declared.plan.Candidate.{Candidate}
use Rattle.mn_reach.specs.declared.plan.Prospect.{Prospect}

-- 1. Candidates

-- as the ledger has it
abbrev pub held_in : Candidate → HeldRoute
held_in candidate = held_as candidate.route

-- its edge is the one at its place among the edges
pub record IsPlaced (edges : List ℕ) (candidate : Candidate) : Type 0 where
  pub place : candidate.place < length edges
  pub edge : slice_index_or edges candidate.place 0 ≡ candidate.route.edge.0

-- 2. The ways on which packets go while nothing has failed

abbrev pub all_up : Network → View
all_up topology = replicate (length topology.links) true

-- the links from an edge to that of a candidate; none where no links lead there
abbrev pub links_towards : Network → ℕ → Candidate → List ℕ
links_towards topology home candidate = links_on (unwrap_or (way (wiring_of topology) (all_up topology) home candidate.route.edge.0) [])

-- to those of all of them
abbrev pub links_between : Network → ℕ → List Candidate → List ℕ
links_between topology home candidates = flat_map (links_towards topology home) candidates

-- 3. What is found of a topology and pairs

-- the network, its edges, by pair what was found, and the pairs that what fails may touch: by link, and by node
pub record Plan : Type 0 where
  pub nodes : ℕ
  pub links : List LinkEnds
  pub edges : List ℕ
  pub pairs : List Pair
  pub prospects : List Prospect
  pub by_link : List (List ℕ)
  pub by_home : List (List ℕ)

abbrev pub no_pair : Pair
no_pair = record { site = record { 0 = 0 }; prefix = record { address = 0; length = 0 }; address = 0 }

abbrev pub no_prospect : Prospect
no_prospect = record { candidates = []; links = [] }

-- the pair of a number
abbrev pub pair_at : Plan → ℕ → Pair
pair_at plan k = slice_index_or plan.pairs k no_pair

abbrev pub prospect_at : Plan → ℕ → Prospect
prospect_at plan k = slice_index_or plan.prospects k no_prospect

-- the numbers of nodes
abbrev pub numbers_of : List NodeNo → List ℕ
numbers_of nodes = map (λ node. node.0) nodes

-- what was found of a pair of the topology
pub record IsFor (topology : Network) (edges : List ℕ) (pair : Pair) (prospect : Prospect) : Type 0 where
  pub candidates : AreCandidates topology (config_under topology no_failure) (home_of topology pair.site.0) (vrf_of topology pair.site.0) pair.address
      (map held_in prospect.candidates)
  pub placed : All (IsPlaced edges) prospect.candidates
  pub links : map (λ l. l.0) prospect.links ≡ links_between topology (home_of topology pair.site.0) prospect.candidates

-- the edge of a pair's site
abbrev pub home_at : Network → Plan → ℕ → ℕ
home_at topology plan k = home_of topology (pair_at plan k).site.0

-- those of one place
abbrev pub pairs_at : List (List ℕ) → ℕ → List ℕ
pairs_at lists at = slice_index_or lists at []

-- each pair is among those of each link on the ways from its edge to its candidates', and among those of its edge
pub record AreListed (topology : Network) (plan : Plan) : Type 0 where
  pub links : (k l : ℕ) → k < length plan.pairs →
      Contains (links_between topology (home_at topology plan k) (prospect_at plan k).candidates) l → Contains (pairs_at plan.by_link l) k
  pub homes : (k : ℕ) → k < length plan.pairs → Contains (pairs_at plan.by_home (home_at topology plan k)) k

-- the plan is one for this topology
pub record IsOf (topology : Network) (plan : Plan) : Type 0 where
  pub lawful : IsLawful topology
  pub nodes : plan.nodes ≡ length topology.loopbacks
  pub links : plan.links ≡ topology.links
  pub edges : plan.edges ≡ edges topology
  pub each : length plan.prospects ≡ length plan.pairs
  pub sites : All (λ pair. pair.site.0 < length topology.sites) plan.pairs
  pub planned : (k : ℕ) → k < length plan.pairs → IsFor topology plan.edges (pair_at plan k) (prospect_at plan k)
  pub listed : AreListed topology plan
