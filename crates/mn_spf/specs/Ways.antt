-- Ways from a root: walks over links that are up, known by their cost and by the neighbour to which they go first.
use Rattle.std.specs.Prelude.{ℕ, ◌≡◌, ◌+◌, ◌*◌, ◌≤◌, ◌<◌, ◌==◌, Bool, true, if◌then◌else◌, List, [], ◌∷◌, length, slice_index_or, All, Contains, Option, Some}
use Rattle.std.specs.Prelude.{None, nat_lt}
use Rattle.std.specs.declared.cmp.Ordering.{Ordering}
use Rattle.std.specs.declared.cmp.Reverse.{Reverse}
use Rattle.std.specs.Ordering.{nat_cmp, ordering_then}
use Rattle.mn_wiring.specs.declared.links.LinkEnds.{LinkEnds}
use Rattle.mn_base.specs.declared.numbers.LinkNo.{LinkNo}
use Rattle.mn_base.specs.declared.numbers.NodeNo.{NodeNo}
use Rattle.mn_wiring.specs.Wiring.{Wiring, link, across}
use Rattle.mn_wiring.specs.Paths.{may_go, walk_end, cost_of}
use Rattle.mn_linkdb.specs.Learned.{Learned, links_up}
use Rattle.mn_linkdb.specs.PathTable.{PathTable, dist_at, next_at}
use Rattle.mn_spf.specs.declared.way.Way.{Way}

-- the network over whose links walks go; loopbacks are of no account to them
abbrev pub wiring_of : Learned → Wiring
wiring_of learned = record { loopbacks = []; ends = learned.ends }

-- a walk may go on from a node over a link
abbrev pub goes : Learned → ℕ → ℕ → Bool
goes learned node l = may_go (wiring_of learned) (links_up learned) node l

-- the other end of a link
abbrev pub beyond : Learned → ℕ → ℕ → ℕ
beyond learned node l = across (wiring_of learned) l node

-- a walk leads from the root to the node, costs so much and goes first to this neighbour
pub record IsWalked (learned : Learned) (root to cost hop : ℕ) : Type 0 where
  pub first : ℕ
  pub rest : List ℕ
  pub leads : walk_end (wiring_of learned) (links_up learned) root (first ∷ rest) ≡ Some to
  pub costs : cost_of (wiring_of learned) (first ∷ rest) ≡ cost
  pub by_hop : beyond learned root first ≡ hop

-- ways are compared by cost, and those of one cost by hop: as these numbers
abbrev pub rank : ℕ → ℕ → ℕ
rank cost hop = 65536 * cost + hop

abbrev pub rank_of : Way → ℕ
rank_of way = rank way.cost way.hop

-- the order of ways
abbrev pub way_cmp : Way → Way → Ordering
way_cmp a b = ordering_then (nat_cmp a.cost b.cost) (ordering_then (nat_cmp a.hop b.hop) (nat_cmp a.to b.to))

-- the order of a heap of ways, whose greatest is the best way
abbrev pub worse_cmp : Reverse Way → Reverse Way → Ordering
worse_cmp a b = way_cmp b.0 a.0

-- the rank of what is known of a node; the root has a cost and no hop
abbrev pub rank_in : Option ℕ → Option NodeNo → Option ℕ
rank_in None hop = None
rank_in (Some cost) None = Some (rank cost 0)
rank_in (Some cost) (Some hop) = Some (rank cost hop.0)

abbrev pub rank_at : PathTable → ℕ → Option ℕ
rank_at table node = rank_in (dist_at table node) (next_at table node)

-- something is known, and its rank is at most this
abbrev pub AtMost : Option ℕ → ℕ → Type 0
AtMost None most = ⊥
AtMost (Some known) most = known ≤ most

-- a way of this rank is better than what is known
abbrev pub beats : ℕ → Option ℕ → Bool
beats new None = true
beats new (Some known) = nat_lt new known

-- the end of a link other than this node
abbrev pub other_end : LinkEnds → ℕ → ℕ
other_end ends node = if ends.a.0 == node then ends.b.0 else ends.a.0

-- the way that goes on over a link
abbrev pub way_over : ℕ → Way → LinkEnds → Way
way_over root way ends = record { cost = way.cost + ends.cost; hop = (if way.to == root then other_end ends way.to else way.hop); to = other_end ends way.to }

-- the rank of a way that goes on over a link
abbrev pub rank_over : Learned → ℕ → ℕ → ℕ → ℕ → ℕ
rank_over learned root node known l =
    if node == root then rank (link (wiring_of learned) l).cost (beyond learned node l) else known + 65536 * (link (wiring_of learned) l).cost

-- these are the links over which a walk may go on from a node
pub record AreLinksAt (learned : Learned) (node : ℕ) (links : List LinkNo) : Type 0 where
  pub each : All (λ l. goes learned node l.0 ≡ true) links
  pub all : (l : ℕ) → goes learned node l ≡ true → Contains links (record { 0 = l })

-- by node, the links over which a walk may go on
pub record AreLinks (learned : Learned) (lists : List (List LinkNo)) : Type 0 where
  pub one_each : length lists ≡ learned.nodes
  pub at : (node : ℕ) → node < learned.nodes → AreLinksAt learned node (slice_index_or lists node [])
