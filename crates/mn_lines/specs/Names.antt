-- The names of a network.
use Rattle.std.specs.Prelude.{ℕ, List, [], map, slice_index_or}
use Rattle.mn_wiring.specs.declared.links.LinkEnds.{LinkEnds}
use Rattle.mn_wiring.specs.declared.links.Dir.{Dir}
use Rattle.mn_wiring.specs.declared.links.Dir.TheVariants.{Forth, Back}
use Rattle.mn_topo.specs.Network.{Network}

-- the names of nodes and of sites by their numbers, and which nodes each link joins
pub record NameLists : Type 0 where
  pub nodes : List (List ℕ)
  pub sites : List (List ℕ)
  pub links : List (ℕ × ℕ)

abbrev pub pairs_of : List LinkEnds → List (ℕ × ℕ)
pairs_of links = map (λ link. (link.a.0, link.b.0)) links

-- those of a topology
abbrev pub names_of : Network → NameLists
names_of topology = record { nodes = topology.node_names; sites = topology.site_names; links = pairs_of topology.links }

-- the name of this number
abbrev pub name_at : List (List ℕ) → ℕ → List ℕ
name_at names number = slice_index_or names number []

-- the two ends of the link of this number
abbrev pub ends_at : List (ℕ × ℕ) → ℕ → ℕ × ℕ
ends_at links number = slice_index_or links number (0, 0)

-- of a link's two ends the one that sends in a direction
abbrev pub sender_of : ℕ × ℕ → Dir → ℕ
sender_of ends Forth = ends.0
sender_of ends Back = ends.1

-- and the one that receives
abbrev pub hearer_of : ℕ × ℕ → Dir → ℕ
hearer_of ends Forth = ends.1
hearer_of ends Back = ends.0
