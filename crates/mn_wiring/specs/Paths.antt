-- Walks over the links that are up in a view, the least cost of one, and the next hop on it (RFC 2328, section 16.1).
use Rattle.std.specs.Prelude.{ℕ, zero, suc, ◌≡◌, ◌≢◌, ◌+◌, ◌≤◌, ◌<◌, ◌==◌, ◌&&◌, Bool, true, false, cond, nat_lt, List, [], ◌∷◌, map, filter, length}
use Rattle.std.specs.Prelude.{slice_index_or, Option, Some, None}
use Rattle.mn_wiring.specs.Wiring.{Wiring, View, is_up, link, is_end, across, nodes_of, links_at}

-- 1. What is meant

-- a walk may go on from a node over a link
abbrev pub may_go : Wiring → View → ℕ → ℕ → Bool
may_go wiring view node l = is_up view l && (is_end wiring l node && nat_lt l (length wiring.ends))

-- where a walk over these links ends
abbrev pub walk_end : Wiring → View → ℕ → List ℕ → Option ℕ
walk_end wiring view node [] = Some node
walk_end wiring view node (l ∷ ls) = cond (may_go wiring view node l) (walk_end wiring view (across wiring l node) ls) None

-- what it costs: the sum over its links
abbrev pub cost_of : Wiring → List ℕ → ℕ
cost_of wiring [] = 0
cost_of wiring (l ∷ ls) = (link wiring l).cost + cost_of wiring ls

-- a walk between two nodes has this cost, and none has less
pub record IsLeast (wiring : Wiring) (view : View) (from to cost : ℕ) : Type 0 where
  pub walk : (ls : List ℕ) × (walk_end wiring view from ls ≡ Some to) × (cost_of wiring ls ≡ cost)
  pub least : (ls : List ℕ) → walk_end wiring view from ls ≡ Some to → cost ≤ cost_of wiring ls

-- the least cost, where there is a walk
abbrev pub IsDist : Wiring → View → ℕ → ℕ → Option ℕ → Type 0
IsDist wiring view from to (Some cost) = IsLeast wiring view from to cost
IsDist wiring view from to None = (ls : List ℕ) → walk_end wiring view from ls ≢ Some to

-- over this link, which is up, goes a least walk
pub record IsOnLeast (wiring : Wiring) (view : View) (from to l : ℕ) : Type 0 where
  pub there : l < length wiring.ends
  pub at_node : is_end wiring l from ≡ true
  pub up : is_up view l ≡ true
  pub rest : ℕ
  pub after : IsLeast wiring view (across wiring l from) to rest
  pub whole : IsLeast wiring view from to ((link wiring l).cost + rest)

-- of the neighbours to which a least walk goes first, one of least number, and the link to it; none where there is no walk
abbrev pub IsNext : Wiring → View → ℕ → ℕ → Option (ℕ × ℕ) → Type 0
IsNext wiring view from to (Some hop) =
    (hop.0 ≡ across wiring hop.1 from) × IsOnLeast wiring view from to hop.1 × ((l : ℕ) → IsOnLeast wiring view from to l → hop.0 ≤ across wiring l from)
IsNext wiring view from to None = (ls : List ℕ) → walk_end wiring view from ls ≢ Some to

-- 2. How it is computed: the least cost to one node of the walks of at most so many links, for each node

abbrev pub lesser : Option ℕ → Option ℕ → Option ℕ
lesser None b = b
lesser (Some a) None = Some a
lesser (Some a) (Some b) = Some (cond (nat_lt b a) b a)

abbrev pub plus : ℕ → Option ℕ → Option ℕ
plus cost None = None
plus cost (Some dist) = Some (cost + dist)

-- by node
abbrev pub dist_in : List (Option ℕ) → ℕ → Option ℕ
dist_in dists node = slice_index_or dists node None

-- no link is needed where one is
abbrev pub here : ℕ → ℕ → Option ℕ
here to node = cond (node == to) (Some 0) None

-- the least over one of these links first
abbrev pub least_over : Wiring → View → List (Option ℕ) → ℕ → List ℕ → Option ℕ
least_over wiring view dists node [] = None
least_over wiring view dists node (l ∷ ls) =
    lesser (elim (is_up view l) [ true ↦ plus (link wiring l).cost (dist_in dists (across wiring l node)) | false ↦ None ])
    (least_over wiring view dists node ls)

-- with one link more
abbrev pub round : Wiring → View → ℕ → List (Option ℕ) → List (Option ℕ)
round wiring view to dists = map (λ node. lesser (here to node) (least_over wiring view dists node (links_at wiring node))) (nodes_of wiring)

abbrev pub rounds : ℕ → Wiring → View → ℕ → List (Option ℕ)
rounds zero wiring view to = map (here to) (nodes_of wiring)
rounds (suc more) wiring view to = round wiring view to (rounds more wiring view to)

-- the least cost from each node; no least walk has as many links as there are nodes
abbrev pub dists_to : Wiring → View → ℕ → List (Option ℕ)
dists_to wiring view to = rounds (length wiring.loopbacks) wiring view to

abbrev pub same_cost : Option ℕ → Option ℕ → Bool
same_cost None b = false
same_cost (Some a) None = false
same_cost (Some a) (Some b) = a == b

-- a least walk goes over this link first
abbrev pub is_on_least : Wiring → View → List (Option ℕ) → ℕ → ℕ → Bool
is_on_least wiring view dists node l = is_up view l && same_cost (plus (link wiring l).cost (dist_in dists (across wiring l node))) (dist_in dists node)

-- the neighbour of lesser number
abbrev pub nearer : ℕ × ℕ → Option (ℕ × ℕ) → Option (ℕ × ℕ)
nearer a None = Some a
nearer a (Some b) = Some (cond (nat_lt b.0 a.0) b a)

-- of the neighbours over these links the one of least number, and the link to it
abbrev pub nearest : Wiring → ℕ → List ℕ → Option (ℕ × ℕ)
nearest wiring node [] = None
nearest wiring node (l ∷ ls) = nearer (across wiring l node, l) (nearest wiring node ls)

abbrev pub next_by : Wiring → View → List (Option ℕ) → ℕ → Option (ℕ × ℕ)
next_by wiring view dists node = nearest wiring node (filter (is_on_least wiring view dists node) (links_at wiring node))

-- the next hop towards another node, and the link to it
unfoldable pub next : Wiring → View → ℕ → ℕ → Option (ℕ × ℕ)
next wiring view from to = elim (from == to) [ true ↦ None | false ↦ next_by wiring view (dists_to wiring view to) from ]
