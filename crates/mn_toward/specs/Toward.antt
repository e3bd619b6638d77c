-- The next hop towards a node by its tree: of some links at a node.
use Rattle.std.specs.Prelude.{◌≡◌, ◌<◌, ℕ, true, cond, List, [], map, filter, length, Option, Some, None}
use Rattle.mn_wiring.specs.declared.links.LinkEnds.{LinkEnds}
use Rattle.mn_base.specs.declared.numbers.LinkNo.{LinkNo}
use Rattle.mn_base.specs.declared.numbers.NodeNo.{NodeNo}
use Rattle.mn_wiring.specs.Wiring.{Wiring, View, across, is_end}
use Rattle.mn_wiring.specs.Paths.{nearer, nearest, is_on_least}

-- the network of these links; loopbacks are of no account to next hops
abbrev pub wired : List LinkEnds → Wiring
wired ends = record { loopbacks = []; ends = ends }

-- a hop by numbers
abbrev pub as_hop : Option (NodeNo × LinkNo) → Option (ℕ × ℕ)
as_hop None = None
as_hop (Some hop) = Some (hop.0.0, hop.1.0)

-- the link is there, at the node, and its far end is one of so many nodes
abbrev pub IsThere : List LinkEnds → ℕ → ℕ → LinkNo → Type 0
IsThere ends nodes node l = (l.0 < length ends) × (is_end (wired ends) l.0 node ≡ true) × (across (wired ends) l.0 node < nodes)

abbrev pub numbers_of : List LinkNo → List ℕ
numbers_of links = map (λ l. l.0) links

-- of the neighbours to which a least walk goes first over one of these links, the one of least number, and the link to it
abbrev pub nearest_over : Wiring → View → List (Option ℕ) → ℕ → List LinkNo → Option (ℕ × ℕ)
nearest_over wiring view dists node links = nearest wiring node (filter (is_on_least wiring view dists node) (numbers_of links))

-- the nearer of two, of which the first goes before where both are as near
abbrev pub merged : Option (ℕ × ℕ) → Option (ℕ × ℕ) → Option (ℕ × ℕ)
merged None later = later
merged (Some hop) later = nearer hop later

-- with one link more
abbrev pub with_link : Wiring → View → List (Option ℕ) → ℕ → Option (ℕ × ℕ) → LinkNo → Option (ℕ × ℕ)
with_link wiring view dists node best l =
    cond (is_on_least wiring view dists node l.0) (merged best (Some (across wiring l.0 node, l.0))) best
