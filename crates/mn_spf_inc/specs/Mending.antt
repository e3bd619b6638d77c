-- What holds while a tree is mended (RFC 2328, section 16.1).
use Rattle.std.specs.Prelude.{ℕ, ◌≡◌, ◌≢◌, ◌+◌, ◌*◌, ◌^◌, ◌≤◌, ◌<◌, Bool, true, false, List, [], ◌∷◌, ◌++◌, length, slice_index_or, count_by, sum_by, All}
use Rattle.std.specs.Prelude.{Contains, Option, Some, None, MatchBool, MatchOption, nat_lt, ◌⊎◌, IsPermutation}
use Rattle.std.specs.declared.cmp.Reverse.{Reverse}
use Rattle.std.specs.BinaryHeap.{heap_items}
use Rattle.mn_wiring.specs.declared.links.LinkEnds.{LinkEnds}
use Rattle.mn_wiring.specs.Wiring.{link}
use Rattle.mn_base.specs.declared.numbers.LinkNo.{LinkNo}
use Rattle.mn_base.specs.declared.numbers.NodeNo.{NodeNo}
use Rattle.mn_linkdb.specs.Learned.{Learned}
use Rattle.mn_linkdb.specs.PathTable.{PathTable, IsTable, dist_at, next_at, with_entries}
use Rattle.mn_spf.specs.Ways.{wiring_of, goes, beyond, rank_at, AtMost, beats, rank_over}
use Rattle.mn_spf_inc.specs.declared.way.Way.{Way}
use Rattle.mn_spf_inc.specs.declared.mend.Mend.{Mend}
use Rattle.mn_spf_inc.specs.Ways.{rank_of, queued, way_over, way_at}

-- 1. A tree that is mended

-- what is known, the nodes that are still to be looked at, and those that were cut off
pub record State : Type 0 where
  pub table : PathTable
  pub queue : List (Reverse Way)
  pub cut : List NodeNo

abbrev pub state_of : Mend → State
state_of mend = record { table = mend.tree; queue = heap_items mend.queue; cut = mend.cut.items }

abbrev pub numbered : ℕ → NodeNo
numbered node = record { 0 = node }

-- the root has no next hop, and every other node that is reached has one
abbrev pub IsFormed : ℕ → ℕ → Option ℕ → Option NodeNo → Type 0
IsFormed root node (Some cost) (Some hop) = (hop.0 < 65536) × (node ≢ root)
IsFormed root node (Some cost) None = node ≡ root
IsFormed root node None hop = hop ≡ None

-- from a neighbour leads a way that is no worse than what is known of the node
pub record IsHeld (v : Learned) (root : ℕ) (t : PathTable) (node known : ℕ) : Type 0 where
  pub from : ℕ
  pub l : ℕ
  pub near : ℕ
  pub there : from < v.nodes
  pub goes_on : goes v from l ≡ true
  pub leads : beyond v from l ≡ node
  pub is_known : rank_at t from ≡ Some near
  pub no_worse : rank_over v root from near l ≤ known

-- over a link leads no better way than what is known of its end
abbrev pub IsRelaxed : Learned → ℕ → PathTable → ℕ → ℕ → ℕ → Type 0
IsRelaxed v root t node known l = AtMost (rank_at t (beyond v node l)) (rank_over v root node known l)

abbrev pub is_blank : Option ℕ → Bool
is_blank None = true
is_blank (Some cost) = false

abbrev pub is_there : Option ℕ → Bool
is_there None = false
is_there (Some cost) = true

-- how many nodes nothing is known of, and of how many something is
abbrev pub unknown : PathTable → ℕ
unknown t = count_by is_blank t.dists

abbrev pub reached : PathTable → ℕ
reached t = count_by is_there t.dists

-- 2. What gets better

-- the best way to the node stands in the queue
abbrev pub IsPending : State → ℕ → Type 0
IsPending s node = (way : Way) × Contains s.queue (queued way) × (way.to ≡ node) × (rank_at s.table node ≡ Some (rank_of way))

-- each node that is reached but the root is held by a neighbour; over each link leads no better way, but for the links that
-- rest and those at nodes that are pending
pub record IsGrowing (v : Learned) (root : ℕ) (Rest : ℕ → ℕ → Type 0) (s : State) : Type 0 where
  pub one_each : IsTable v.nodes s.table
  pub root_cost : dist_at s.table root ≡ Some 0
  pub root_hop : next_at s.table root ≡ None
  pub formed : (node : ℕ) → node < v.nodes → IsFormed root node (dist_at s.table node) (next_at s.table node)
  pub held : (node known : ℕ) → node < v.nodes → node ≢ root → rank_at s.table node ≡ Some known → IsHeld v root s.table node known
  pub relaxed : (node l known : ℕ) → node < v.nodes → goes v node l ≡ true → rank_at s.table node ≡ Some known →
      Rest node l ⊎ (IsPending s node ⊎ IsRelaxed v root s.table node known l)
  pub ways : All (λ way. way.0.to < v.nodes) s.queue
  pub bounded : (node cost : ℕ) → node < v.nodes → dist_at s.table node ≡ Some cost → cost + 65535 * unknown s.table ≤ 65535 * v.nodes

abbrev pub NoRest : ℕ → ℕ → Type 0
NoRest node l = ⊥

-- the links at a node
abbrev pub AllAt : ℕ → ℕ → ℕ → Type 0
AllAt at node l = node ≡ at

-- the links at the end of a way that was the best to it
abbrev pub WasBest : PathTable → Way → ℕ → ℕ → Type 0
WasBest t way node l = (node ≡ way.to) × (rank_at t node ≡ Some (rank_of way))

-- one link
abbrev pub OneLink : ℕ → ℕ → ℕ → Type 0
OneLink at node l = l ≡ at

-- of the links at a node, those from this place of the list on
abbrev pub FromPlace : ℕ → List LinkNo → ℕ → ℕ → ℕ → Type 0
FromPlace at links start node l = (node ≡ at) × (k : ℕ) × (start ≤ k) × (k < length links) × ((slice_index_or links k (record { 0 = l })).0 ≡ l)

-- the links to nodes that were cut off
abbrev pub IntoCut : Learned → List NodeNo → ℕ → ℕ → Type 0
IntoCut v cut node l = Contains cut (numbered (beyond v node l))

-- and those to one node more: all, or those from this place of its list on
abbrev pub IntoCutOr : Learned → List NodeNo → ℕ → ℕ → ℕ → Type 0
IntoCutOr v cut at node l = IntoCut v cut node l ⊎ (beyond v node l ≡ at)

abbrev pub IntoCutOrFrom : Learned → List NodeNo → ℕ → List LinkNo → ℕ → ℕ → ℕ → Type 0
IntoCutOrFrom v cut at links start node l = IntoCut v cut node l ⊎ FromPlace at links start (beyond v node l) l

-- nothing is left to do
pub record IsMended (v : Learned) (root : ℕ) (s : State) : Type 0 where
  pub stands : IsGrowing v root NoRest s
  pub no_ways : s.queue ≡ []
  pub none_cut : s.cut ≡ []

-- a way to a node that is known
pub record IsKnown (v : Learned) (root : ℕ) (t : PathTable) (way : Way) : Type 0 where
  pub there : way.to < v.nodes
  pub fits : way.hop < 65536
  pub cost : dist_at t way.to ≡ Some way.cost
  pub rank : rank_at t way.to ≡ Some (rank_of way)
  pub start : way.to ≡ root → (way.cost ≡ 0) × (way.hop ≡ 0)

-- a way is taken where it is better than what is known of its end
pub record Takes (old new : State) (way : Way) : Type 0 where
  pub table : new.table ≡ with_entries old.table way.to (Some way.cost) (Some (record { 0 = way.hop }))
  pub queue : IsPermutation (queued way ∷ old.queue) new.queue
  pub cut : new.cut ≡ old.cut

abbrev pub Offers : State → State → Way → Type 0
Offers old new way = MatchBool (beats (rank_of way) (rank_at old.table way.to)) (Takes old new way) (new ≡ old)

-- the way that goes on from a node over a link is offered
abbrev pub OffersBeyond : State → State → ℕ → ℕ → LinkEnds → Type 0
OffersBeyond old new root from ends = MatchOption (way_at old.table from) (new ≡ old) (λ way. Offers old new (way_over root way ends))

-- how much can get better: it falls with each way that is taken
abbrev pub cost_in : Option ℕ → ℕ
cost_in None = 2 ^ 32
cost_in (Some cost) = cost

abbrev pub hop_in : Option NodeNo → ℕ
hop_in None = 0
hop_in (Some hop) = hop.0

abbrev pub weight : PathTable → ℕ
weight t = 65536 * sum_by cost_in t.dists + sum_by hop_in t.nexts

abbrev pub work : State → ℕ
work s = 2 * weight s.table + length s.queue

-- 3. What is lost

-- the node stands in the queue
abbrev pub IsDoubted : State → ℕ → Type 0
IsDoubted s node = (way : Way) × Contains s.queue (queued way) × (way.to ≡ node)

-- each node that is reached but the root is held, doubted, or late; over each link leads no better way, but to nodes that were
-- cut off
pub record IsCutting (v : Learned) (root : ℕ) (Late : ℕ → ℕ → Type 0) (s : State) : Type 0 where
  pub one_each : IsTable v.nodes s.table
  pub root_cost : dist_at s.table root ≡ Some 0
  pub root_hop : next_at s.table root ≡ None
  pub formed : (node : ℕ) → node < v.nodes → IsFormed root node (dist_at s.table node) (next_at s.table node)
  pub held : (node known : ℕ) → node < v.nodes → node ≢ root → rank_at s.table node ≡ Some known →
      Late node known ⊎ (IsDoubted s node ⊎ IsHeld v root s.table node known)
  pub relaxed : (node l known : ℕ) → node < v.nodes → goes v node l ≡ true → rank_at s.table node ≡ Some known →
      IntoCut v s.cut node l ⊎ IsRelaxed v root s.table node known l
  pub ways : All (λ way. (way.0.to < v.nodes) × (way.0.to ≢ root)) s.queue
  pub small : (node cost : ℕ) → node < v.nodes → dist_at s.table node ≡ Some cost → cost ≤ 65535 * v.nodes
  pub gone : All (λ node. (node.0 < v.nodes) × (dist_at s.table node.0 ≡ None)) s.cut

-- how much can be lost: it falls with each node that is cut off or found to be held
abbrev pub left : State → ℕ
left s = 2 ^ 64 * reached s.table + length s.queue

-- the way comes from a neighbour, over a link that is up
pub record ComesOver (v : Learned) (root : ℕ) (t : PathTable) (way : Way) : Type 0 where
  pub l : ℕ
  pub near : Way
  pub goes_on : goes v way.to l ≡ true
  pub is_known : way_at t (beyond v way.to l) ≡ Some near
  pub same : way_over root near (link (wiring_of v) l) ≡ way

abbrev pub NoneLate : ℕ → ℕ → Type 0
NoneLate node known = ⊥

-- one node is late
abbrev pub OneLate : ℕ → ℕ → ℕ → Type 0
OneLate at node known = node ≡ at

-- the nodes that one was holding over its links from this place on
abbrev pub HeldBy : Learned → ℕ → Way → List LinkNo → ℕ → ℕ → ℕ → Type 0
HeldBy v root way links start node known =
    (l : ℕ) × (goes v way.to l ≡ true) × FromPlace way.to links start way.to l × (beyond v way.to l ≡ node)
    × (rank_over v root way.to (rank_of way) l ≤ known)

-- the node that one was holding over one link
abbrev pub HeldOver : Learned → ℕ → PathTable → ℕ → ℕ → ℕ → ℕ → Type 0
HeldOver v root t l from node known = (near : ℕ) × (rank_at t from ≡ Some near) × (beyond v from l ≡ node) × (rank_over v root from near l ≤ known)

abbrev pub HeldOverEither : Learned → ℕ → PathTable → ℕ → ℕ → ℕ → ℕ → ℕ → Type 0
HeldOverEither v root t l a b node known = HeldOver v root t l a node known ⊎ HeldOver v root t l b node known

-- a way leads to a node of which something better is known, or nothing
abbrev pub IsPassedBy : PathTable → Way → Type 0
IsPassedBy t over = (known : Way) → way_at t over.to ≡ Some known → rank_of known < rank_of over

abbrev pub IsPassedOver : ℕ → PathTable → ℕ → LinkEnds → Type 0
IsPassedOver root t from ends = (near : Way) → way_at t from ≡ Some near → IsPassedBy t (way_over root near ends)

-- a way is queued
pub record Queues (old new : State) (way : Way) : Type 0 where
  pub table : new.table ≡ old.table
  pub queue : IsPermutation (queued way ∷ old.queue) new.queue
  pub cut : new.cut ≡ old.cut

-- the node at the end of a way is doubted, unless what is known of it is better than the way
abbrev pub Doubts : State → State → Way → Type 0
Doubts old new over =
    MatchOption (way_at old.table over.to) (new ≡ old) (λ known. MatchBool (nat_lt (rank_of known) (rank_of over)) (new ≡ old) (Queues old new known))

abbrev pub DoubtsBeyond : State → State → ℕ → ℕ → LinkEnds → Type 0
DoubtsBeyond old new root from ends = MatchOption (way_at old.table from) (new ≡ old) (λ way. Doubts old new (way_over root way ends))

-- what is known of a node is forgotten
pub record Forgets (old new : State) (node : ℕ) : Type 0 where
  pub table : new.table ≡ with_entries old.table node None None
  pub queue : new.queue ≡ old.queue
  pub cut : new.cut ≡ old.cut ++ numbered node ∷ []
