-- The nodes and links with which paths can be computed.
use Rattle.std.specs.Prelude.{ℕ, ◌<◌, ◌≤◌, List, length, All}
use Rattle.mn_wiring.specs.declared.links.LinkEnds.{LinkEnds}

-- a link between two of so many nodes, of a cost that counts
pub record IsLink (nodes : ℕ) (ends : LinkEnds) : Type 0 where
  pub from : ends.a.0 < nodes
  pub to : ends.b.0 < nodes
  pub positive : 0 < ends.cost
  pub bounded : ends.cost < 65536

-- at most 256 nodes and 1,024 links among them
pub record IsNetwork (nodes : ℕ) (ends : List LinkEnds) : Type 0 where
  pub few_nodes : nodes ≤ 256
  pub few_links : length ends ≤ 1024
  pub links : All (IsLink nodes) ends
