-- A stretch of a journal in which one link changes, and no other one: what its nodes take for up, and for where its packets are bound.
use Rattle.std.specs.Prelude.{◌≡◌, ◌≢◌, ◌<◌, ℕ, ◌==◌, Bool, true, false, List, [], ◌++◌, map, length, slice_index_or, Option, Some, None}
use Rattle.std.specs.List.{list_all}
use Rattle.mn_base.specs.declared.numbers.NodeNo.{NodeNo}
use Rattle.mn_drops.specs.declared.drops.Rule.TheVariants as rule
use Rattle.mn_wiring.specs.Wiring.{View, links_of}
use Rattle.mn_ipv4.specs.Header.{destination_of}
use Rattle.mn_topo.specs.Network.{Network, wiring_of}
use Rattle.mn_topo.specs.declared.steps.Step.{Step}
use Rattle.mn_topo.specs.declared.steps.Step.TheVariants.{LinkUp, LinkDown}
use Rattle.mn_topo.specs.declared.steps.JournalEntry.{JournalEntry}
use Rattle.mn_ledger.specs.declared.verdict.Verdict.TheVariants.{Dropped}
use Rattle.mn_ledger.specs.Tables.{put}
use Rattle.mn_ledger.specs.Places.{home_of, vrf_of}
use Rattle.mn_ledger.specs.World.{World}
use Rattle.mn_ledger.specs.Held.{HeldRoute, best}
use Rattle.mn_ledger.specs.Eligible.{eligible}
use Rattle.mn_ledger.specs.Packets.{Packets}
use Rattle.mn_ledger.specs.Verdicts.{verdict_on}
use Rattle.mn_ledger.specs.Ledger.{world_of}
use Rattle.mn_ledger.specs.Lawful.{IsLawfulJournal}
use Rattle.mn_changing_laws.specs.BothNext.{both_next, HasNoneTwice}

-- each node has learned of each change of a link
abbrev pub KnowAllChanges : Network → World → Type 0
KnowAllChanges topology world =
    (node l : ℕ) → node < length topology.loopbacks → l < length topology.links → world.views.learned node l ≡ world.views.changes l

-- no other link than this one comes up or goes down; whatever else is done
abbrev pub changes_no_other : ℕ → Step → Bool
changes_no_other l (LinkUp other) = other.0 == l
changes_no_other l (LinkDown other) = other.0 == l
changes_no_other l _ = true

-- A stretch of a lawful journal that begins where each node has learned of each change, as in a settled network, and in which only this link
-- comes up or goes down: once, or more often. Notices and messages come in any order.
pub record OneLinkChanges (topology : Network) (l : ℕ) (before during : List JournalEntry) (inputs : List (List ℕ)) : Type 0 where
  pub journal : IsLawfulJournal topology (before ++ during) inputs
  pub known : KnowAllChanges topology (world_of topology before)
  pub alone : list_all (λ entry. changes_no_other l entry.step) during ≡ true

-- the links that are up in this world, but for one: that is up or down as it is said
abbrev pub links_with : Network → World → ℕ → Bool → View
links_with topology world l is_up = map (put world.config.is_up l is_up) (links_of (wiring_of topology))

-- a node's next hops towards an edge: that with the link down, and that with the link up
abbrev pub old_and_new_next : Network → World → ℕ → ℕ → ℕ → List ℕ
old_and_new_next topology world l edge node =
    both_next (wiring_of topology) (links_with topology world l false) (links_with topology world l true) edge node

abbrev pub edge_of_route : ℕ → Option HeldRoute → ℕ
edge_of_route home None = home
edge_of_route home (Some route) = route.edge

-- the edge for which these bytes are bound where they are sent at this site: that of the best route; without a route its own
abbrev pub bound_for : Network → World → ℕ → List ℕ → ℕ
bound_for topology world s bytes =
    edge_of_route (home_of topology s)
    (best (eligible topology world (home_of topology s) (vrf_of topology s) (destination_of bytes)) (destination_of bytes))

-- no node is on the packet's path twice; and it isn't dropped for its TTL where that was more than there are nodes
pub record MeetsNoNodeTwice (packets : Packets) (packet nodes ttl : ℕ) : Type 0 where
  pub path : HasNoneTwice (slice_index_or packets.paths packet [])
  pub lives_on : nodes < ttl → (node : NodeNo) → verdict_on packets packet ≢ Dropped rule.TtlExpired node
