-- A network, the edges to which ways lead, and what is switched on.
use Rattle.std.specs.Prelude.{ℕ, ◌≡◌, ◌≢◌, ◌<◌, Bool, false, List, [], length, map, slice_index_or, All}
use Rattle.mn_base.specs.declared.numbers.LinkNo.{LinkNo}
use Rattle.mn_wiring.specs.declared.links.LinkEnds.{LinkEnds}
use Rattle.mn_wiring.specs.Wiring.{Wiring, is_up, links_at}
use Rattle.mn_linkdb.specs.Learned.{Learned}
use Rattle.mn_linkdb.specs.Network.{IsNetwork}
use Rattle.mn_spf_inc.specs.Mended.{Mended}
use Rattle.mn_toward.specs.Toward.{wired, numbers_of, IsThere}

-- the network, the numbers of the edges, which links are up, on which LDP is on, and whether memory was wanting
pub record Switched : Type 0 where
  pub nodes : ℕ
  pub ends : List LinkEnds
  pub edges : List ℕ
  pub up : List Bool
  pub ldp : List Bool
  pub failed : Bool

-- the network's nodes and links are these, whatever the loopbacks
pub record IsOver (wiring : Wiring) (switched : Switched) : Type 0 where
  pub nodes : length wiring.loopbacks ≡ switched.nodes
  pub ends : wiring.ends ≡ switched.ends

-- the edge of this place in the list
abbrev pub edge_at : Switched → ℕ → ℕ
edge_at switched place = slice_index_or switched.edges place 0

-- the links at a node, in their order
pub record AreAtNode (ends : List LinkEnds) (nodes node : ℕ) (links : List LinkNo) : Type 0 where
  pub these : numbers_of links ≡ links_at (wired ends) node
  pub there : All (λ l. IsThere ends nodes node l) links

-- by node the links at it
pub record AreByNode (ends : List LinkEnds) (nodes : ℕ) (lists : List (List LinkNo)) : Type 0 where
  pub one_each : length lists ≡ nodes
  pub at : (node : ℕ) → node < nodes → AreAtNode ends nodes node (slice_index_or lists node [])

abbrev pub roots_of : List Mended → List ℕ
roots_of trees = map (λ tree. tree.root) trees

-- the link is there, and isn't so yet
pub record CanTurn (l : ℕ) (up : Bool) (tree : Mended) : Type 0 where
  pub there : l < length tree.ends
  pub turns : is_up tree.up l ≢ up

-- whatever becomes of a tree, it is of the same root and network
pub record IsSameBut (old new : Mended) : Type 0 where
  pub root : new.root ≡ old.root
  pub nodes : new.nodes ≡ old.nodes
  pub ends : new.ends ≡ old.ends

-- the tree is one of this network
pub record IsOfLinks (links : Learned) (tree : Mended) : Type 0 where
  pub nodes : tree.nodes ≡ links.nodes
  pub ends : tree.ends ≡ links.ends
  pub root : tree.root < links.nodes

-- and has followed all changes
pub record Follows (links : Learned) (switched_up : List Bool) (tree : Mended) : Type 0 where
  pub of : IsOfLinks links tree
  pub up : tree.up ≡ switched_up
  pub sound : tree.failed ≡ false

-- what holds of each value, whatever was changed
pub record IsKept (links : Learned) (lists : List (List LinkNo)) (trees : List Mended) (up ldp : List Bool) (failed : Bool) : Type 0 where
  pub network : IsNetwork links.nodes links.ends
  pub by_node : AreByNode links.ends links.nodes lists
  pub ups : length up ≡ length links.ends
  pub switches : length ldp ≡ length links.ends
  pub follow : failed ≡ false → All (Follows links up) trees
