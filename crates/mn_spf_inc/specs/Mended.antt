-- A tree that follows the changes of the links.
use Rattle.std.specs.Prelude.{ℕ, ◌≡◌, ◌+◌, ◌<◌, Bool, false, List, length, slice_index_or, Some}
use Rattle.mn_wiring.specs.declared.links.LinkEnds.{LinkEnds}
use Rattle.mn_wiring.specs.Wiring.{Wiring}
use Rattle.mn_linkdb.specs.Learned.{Learned, IsView}
use Rattle.mn_linkdb.specs.PathTable.{PathTable, dist_at}
use Rattle.mn_spf_inc.specs.Mending.{State, IsMended}

-- the root, the network, which links are up, the tree, and whether memory was wanting
pub record Mended : Type 0 where
  pub root : ℕ
  pub nodes : ℕ
  pub ends : List LinkEnds
  pub up : List Bool
  pub tree : PathTable
  pub failed : Bool

-- the network's nodes and links are these, whatever the loopbacks
pub record IsOver (wiring : Wiring) (mended : Mended) : Type 0 where
  pub nodes : length wiring.loopbacks ≡ mended.nodes
  pub ends : wiring.ends ≡ mended.ends

abbrev pub ends_at : Mended → ℕ → LinkEnds
ends_at mended l = slice_index_or mended.ends l (record { a = record { 0 = 0 }; b = record { 0 = 0 }; cost = 0; delay = 0; loss = 0; life = 0 })

-- the cost of the one node and of the link make the cost of the other
abbrev pub Makes : PathTable → ℕ → ℕ → ℕ → Type 0
Makes tree from cost to = (known : ℕ) × (dist_at tree from ≡ Some known) × (dist_at tree to ≡ Some (known + cost))

-- over the link goes no least walk, in neither direction
pub record IsIdle (mended : Mended) (l : ℕ) : Type 0 where
  pub forth : Makes mended.tree (ends_at mended l).a.0 (ends_at mended l).cost (ends_at mended l).b.0 → ⊥
  pub back : Makes mended.tree (ends_at mended l).b.0 (ends_at mended l).cost (ends_at mended l).a.0 → ⊥

-- what holds of each value, whatever was changed
pub record IsKept (learned : Learned) (root : ℕ) (failed : Bool) (s : State) : Type 0 where
  pub network : IsView learned
  pub there : root < learned.nodes
  pub mended : failed ≡ false → IsMended learned root s
