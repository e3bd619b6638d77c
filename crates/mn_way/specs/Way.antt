-- Ways by next hops, and label switched paths: those over links on which LDP is on (RFC 3031, section 3.15).
use Rattle.std.specs.Prelude.{ℕ, zero, suc, Bool, cond, false, List, [], ◌∷◌, map, slice_index_or, Option, Some, None}
use Rattle.std.specs.List.{list_all}
use Rattle.std.specs.Option.{option_map, option_and_then}
use Rattle.mn_base.specs.declared.numbers.LinkNo.{LinkNo}
use Rattle.mn_base.specs.declared.numbers.NodeNo.{NodeNo}
use Rattle.mn_wiring.specs.Wiring.{Wiring, View}
use Rattle.mn_wiring.specs.Paths.{dist_in, dists_to, next}

-- a neighbour, and the link to it
abbrev pub Hop : Type 0
Hop = ℕ × ℕ

-- this hop, and those from the node to which it leads
abbrev pub onward : (ℕ → List Hop) → Option Hop → List Hop
onward rest None = []
onward rest (Some hop) = hop ∷ rest hop.0

-- from node to node by the next hop towards one of them, at most so many hops; that node itself has none
abbrev pub hops_within : Wiring → View → ℕ → ℕ → ℕ → List Hop
hops_within wiring view to zero node = []
hops_within wiring view to (suc more) node = onward (hops_within wiring view to more) (next wiring view node to)

-- the way from a node to another one; none where no links lead there. No link costs less than 1, so a least walk has no more links than its cost
abbrev pub way : Wiring → View → ℕ → ℕ → Option (List Hop)
way wiring view node to = option_map (λ cost. hops_within wiring view to cost node) (dist_in (dists_to wiring view to) node)

-- LDP is on on the link of the hop
abbrev pub has_ldp : List Bool → Hop → Bool
has_ldp ldp hop = slice_index_or ldp hop.1 false

-- the nodes of a way from this one, and its links
abbrev pub nodes_on : ℕ → List Hop → List ℕ
nodes_on node hops = node ∷ map (λ hop. hop.0) hops

abbrev pub links_on : List Hop → List ℕ
links_on hops = map (λ hop. hop.1) hops

-- the nodes, if LDP is on on each of the links
abbrev pub labelled : List Bool → ℕ → List Hop → Option (List ℕ)
labelled ldp node hops = cond (list_all (has_ldp ldp) hops) (Some (nodes_on node hops)) None

-- the nodes of the label switched path from a node to another one, both included; none where none leads there
abbrev pub label_path : Wiring → View → List Bool → ℕ → ℕ → Option (List ℕ)
label_path wiring view ldp node to = option_and_then (labelled ldp node) (way wiring view node to)

abbrev pub numbered : ℕ → NodeNo
numbered node = record { 0 = node }

abbrev pub link_numbered : ℕ → LinkNo
link_numbered l = record { 0 = l }
