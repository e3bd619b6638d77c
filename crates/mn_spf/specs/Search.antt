-- What holds while the search goes on (RFC 2328, section 16.1).
use Rattle.std.specs.Prelude.{ℕ, ◌≡◌, ◌≢◌, ◌+◌, ◌*◌, ◌≤◌, ◌<◌, Bool, true, false, not, List, ◌∷◌, length, slice_index_or, count_by, All, Contains, Option, Some}
use Rattle.std.specs.Prelude.{None, MatchBool, ◌⊎◌, IsPermutation}
use Rattle.std.specs.declared.cmp.Reverse.{Reverse}
use Rattle.std.specs.BinaryHeap.{IsHeap, KeepsHeap, heap_items}
use Rattle.mn_base.specs.declared.numbers.LinkNo.{LinkNo}
use Rattle.mn_base.specs.declared.numbers.NodeNo.{NodeNo}
use Rattle.mn_linkdb.specs.Learned.{Learned}
use Rattle.mn_linkdb.specs.PathTable.{PathTable, IsTable, dist_at, next_at, with_entries}
use Rattle.mn_spf.specs.declared.way.Way.{Way}
use Rattle.mn_spf.specs.declared.search.Search.{Search}
use Rattle.mn_spf.specs.Ways.{goes, beyond, IsWalked, rank_of, worse_cmp, rank_at, AtMost, beats, rank_over}

-- what was found, which nodes are settled, and the ways in the queue
pub record State : Type 0 where
  pub table : PathTable
  pub settled : List Bool
  pub queue : List (Reverse Way)

abbrev pub state_of : Search → State
state_of search = record { table = search.tree; settled = search.settled.items; queue = heap_items search.queue }

abbrev pub is_settled : State → ℕ → Bool
is_settled s node = slice_index_or s.settled node false

-- how many nodes aren't settled
abbrev pub unsettled : State → ℕ
unsettled s = count_by not s.settled

abbrev pub queued : Way → Reverse Way
queued way = record { 0 = way }

-- what is known of a node is a walk's
abbrev pub IsFound : Learned → ℕ → ℕ → Option ℕ → Option NodeNo → Type 0
IsFound learned root to (Some cost) (Some hop) = IsWalked learned root to cost hop.0
IsFound learned root to (Some cost) None = (to ≡ root) × (cost ≡ 0)
IsFound learned root to None hop = hop ≡ None

-- a way in the queue: a walk's, none better than what is settled, and none worse than what is known of its end
pub record IsQueued (learned : Learned) (root limit : ℕ) (s : State) (way : Way) : Type 0 where
  pub there : way.to < learned.nodes
  pub fits : way.hop < 65536
  pub found : IsWalked learned root way.to way.cost way.hop
  pub not_better : limit ≤ rank_of way
  pub not_worse : AtMost (rank_at s.table way.to) (rank_of way)
  pub bounded : way.cost + 65535 * unsettled s ≤ 65535 * learned.nodes

-- Between two steps. No settled node has a rank above limit, the rank of the way by which the last one was settled. Over a
-- link at a settled node, if it isn't open, leads no better way to the other end than is known of it. Of each node that is
-- found and not settled the best way stands in the queue.
pub record IsSearch (learned : Learned) (root : ℕ) (Open : ℕ → ℕ → Type 0) (limit : ℕ) (s : State) : Type 0 where
  pub one_each : IsTable learned.nodes s.table
  pub marks : length s.settled ≡ learned.nodes
  pub root_cost : dist_at s.table root ≡ Some 0
  pub root_hop : next_at s.table root ≡ None
  pub root_settled : is_settled s root ≡ true
  pub found : (node : ℕ) → node < learned.nodes → IsFound learned root node (dist_at s.table node) (next_at s.table node)
  pub done : (node : ℕ) → node < learned.nodes → is_settled s node ≡ true → AtMost (rank_at s.table node) limit
  pub relaxed : (node l known : ℕ) → node < learned.nodes → is_settled s node ≡ true → goes learned node l ≡ true → rank_at s.table node ≡ Some known →
      Open node l ⊎ AtMost (rank_at s.table (beyond learned node l)) (rank_over learned root node known l)
  pub waiting : (node known : ℕ) → node < learned.nodes → is_settled s node ≡ false → rank_at s.table node ≡ Some known →
      (way : Way) × Contains s.queue (queued way) × (way.to ≡ node) × (rank_of way ≡ known)
  pub ways : All (λ way. IsQueued learned root limit s way.0) s.queue
  pub ordered : IsHeap worse_cmp s.queue

-- no link is open
abbrev pub NoneOpen : ℕ → ℕ → Type 0
NoneOpen node l = ⊥

-- each link at a node is open
abbrev pub AllOpen : ℕ → ℕ → ℕ → Type 0
AllOpen at node l = node ≡ at

-- of the links at a node, those from this place of the list on are open
abbrev pub OpenFrom : ℕ → List LinkNo → ℕ → ℕ → ℕ → Type 0
OpenFrom at links start node l = (node ≡ at) × (k : ℕ) × (start ≤ k) × (k < length links) × ((slice_index_or links k (record { 0 = l })).0 ≡ l)

-- a way that is followed: the root's own, or the best to a node that was settled last
pub record IsFollowed (learned : Learned) (root : ℕ) (s : State) (way : Way) : Type 0 where
  pub there : way.to < learned.nodes
  pub fits : way.hop < 65536
  pub settled : is_settled s way.to ≡ true
  pub known : rank_at s.table way.to ≡ Some (rank_of way)
  pub found : ((way.to ≡ root) × (way.cost ≡ 0) × (way.hop ≡ 0)) ⊎ ((way.to ≢ root) × IsWalked learned root way.to way.cost way.hop)
  pub bounded : way.cost + 65535 * (unsettled s + 1) ≤ 65535 * learned.nodes

-- a way is taken where it is better than what is known of its end
pub record Takes (old new : State) (way : Way) : Type 0 where
  pub settled : new.settled ≡ old.settled
  pub table : new.table ≡ with_entries old.table way.to (Some way.cost) (Some (record { 0 = way.hop }))
  pub queue : IsPermutation (queued way ∷ old.queue) new.queue
  pub ordered : KeepsHeap worse_cmp old.queue new.queue

abbrev pub Offers : State → State → Way → Type 0
Offers old new way = MatchBool (beats (rank_of way) (rank_at old.table way.to)) (Takes old new way) (new ≡ old)

-- what is known in the end: walks, and over no link at a node that is found a better way to a neighbour
pub record IsDone (learned : Learned) (root : ℕ) (table : PathTable) : Type 0 where
  pub one_each : IsTable learned.nodes table
  pub root_cost : dist_at table root ≡ Some 0
  pub root_hop : next_at table root ≡ None
  pub found : (node : ℕ) → node < learned.nodes → IsFound learned root node (dist_at table node) (next_at table node)
  pub relaxed : (node l known : ℕ) → node < learned.nodes → goes learned node l ≡ true → rank_at table node ≡ Some known →
      AtMost (rank_at table (beyond learned node l)) (rank_over learned root node known l)

-- the way that is to be followed next, or what is known in the end
abbrev pub Nearest : Learned → ℕ → State → State → Option Way → Type 0
Nearest learned root old new None = IsDone learned root new.table
Nearest learned root old new (Some way) =
    IsSearch learned root (AllOpen way.to) (rank_of way) new × IsFollowed learned root new way × (unsettled new + 1 ≡ unsettled old)
