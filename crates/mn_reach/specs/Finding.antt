-- How far a plan has been found.
use Rattle.std.specs.Prelude.{ℕ, ◌≡◌, ◌<◌, false, List, map, length, slice_index_or, Option, Some, None, ⊤}
use Rattle.std.specs.List.{Contains}
use Rattle.mn_base.specs.declared.numbers.LinkNo.{LinkNo}
use Rattle.mn_base.specs.declared.numbers.VrfNo.{VrfNo}
use Rattle.mn_topo.specs.Network.{Network}
use Rattle.mn_topo.specs.Homes.{home_of}
use Rattle.mn_ledger.specs.Places.{edges}
use Rattle.mn_candidates.specs.declared.pairs.Pair.{Pair}
use Rattle.mn_candidates.specs.declared.route.Route.{Route}
use Rattle.mn_candidates.specs.Routes.{held_as, routes_for}
use Rattle.mn_way.specs.Switched.{Switched}
use Rattle.mn_reach.specs.declared.plan.Prospect.{Prospect}
use Rattle.mn_reach.specs.declared.prospects.Known.{Known}
use Rattle.mn_reach.specs.Plans.{IsFor, all_up, no_pair, no_prospect, pairs_at}

-- the ways are over the topology's links, all of which are up
pub record IsFresh (topology : Network) (ways : Switched) : Type 0 where
  pub nodes : ways.nodes ≡ length topology.loopbacks
  pub ends : ways.ends ≡ topology.links
  pub edges : ways.edges ≡ edges topology
  pub up : ways.up ≡ all_up topology
  pub sound : ways.failed ≡ false

-- the routes are those of the VRF, if there is one
abbrev pub are_of : Network → Option VrfNo → List Route → Type 0
are_of topology None routes = ⊤
are_of topology (Some vrf) routes = map held_as routes ≡ routes_for topology vrf.0

abbrev pub IsKnown : Network → Known → Type 0
IsKnown topology known = are_of topology known.vrf known.routes.items

-- of the first so many pairs
pub record AreFound (topology : Network) (pairs : List Pair) (count : ℕ) (prospects : List Prospect) : Type 0 where
  pub each : length prospects ≡ count
  pub at : (k : ℕ) → k < count → IsFor topology (edges topology) (slice_index_or pairs k no_pair) (slice_index_or prospects k no_prospect)

-- the lists are as many, and each still has what it had
pub record KeepMembers (old new : List (List ℕ)) : Type 0 where
  pub each : length new ≡ length old
  pub kept : (at k : ℕ) → Contains (pairs_at old at) k → Contains (pairs_at new at) k

-- of the first so many pairs, each is among those of its links
pub record AreByLink (links : ℕ) (prospects : List Prospect) (count : ℕ) (lists : List (List ℕ)) : Type 0 where
  pub each : length lists ≡ links
  pub at : (k : ℕ) (link : LinkNo) → k < count → Contains (slice_index_or prospects k no_prospect).links link → Contains (pairs_at lists link.0) k

-- and among those of its edge
pub record AreByHome (topology : Network) (pairs : List Pair) (count : ℕ) (lists : List (List ℕ)) : Type 0 where
  pub each : length lists ≡ length topology.loopbacks
  pub at : (k : ℕ) → k < count → Contains (pairs_at lists (home_of topology (slice_index_or pairs k no_pair).site.0)) k
