-- The least walks that a network's tree tells.
use Rattle.std.proofs.Common.{◌≡◌, ◌<◌, ℕ, length, Option, ◌∙◌, subst}
use Rattle.mn_wiring.specs.Wiring.{Wiring, View, JoinsNodes}
use Rattle.mn_wiring.specs.Paths.{dist_in, dists_to, next}
use Rattle.mn_base.specs.declared.numbers.NodeNo.{NodeNo}
use Rattle.mn_linkdb.specs.PathTable.{PathTable, dist_at, next_at}
use Rattle.mn_linkdb.specs.Trees.{IsTree, hop_alone}
use Rattle.mn_topo.specs.Network.{Network, wiring_of}
use Rattle.mn_topo.specs.Lawful.{IsLawful}
use Rattle.mn_output_laws.specs.Tables.{tree_line}
use Rattle.mn_tables.specs.Telling.{Stand, Tells}
use Rattle.mn_tables.proofs.Telling.{Answer}

-- both entries of a tree are those that are computed
abbrev pub AreComputed : Type 0
AreComputed = ((wiring : Wiring) (view : View) (root to : ℕ) (tree : PathTable) → IsTree wiring view root tree → JoinsNodes wiring
    → root < length wiring.loopbacks → to < length wiring.loopbacks → dist_at tree to ≡ dist_in (dists_to wiring view to) root)
    × ((wiring : Wiring) (view : View) (root to : ℕ) (tree : PathTable) → IsTree wiring view root tree → JoinsNodes wiring
    → root < length wiring.loopbacks → to < length wiring.loopbacks → next_at tree to ≡ hop_alone (next wiring view root to))

-- what is put of a walk over a topology
abbrev pub PutsWalk : ℕ → ℕ → Option ℕ → Option NodeNo → Stand → Stand → Answer → Network → Type 0
PutsWalk node to dist hop s t r topology = (view : View) → dist ≡ dist_in (dists_to (wiring_of topology) view to) node
    → hop ≡ hop_alone (next (wiring_of topology) view node to) → Tells (tree_line topology view node to) s t r

pub walk_told : (topology one other : Network) (view : View) (node to : ℕ) (tree : PathTable) (dist : Option ℕ) (hop : Option NodeNo) (s t : Stand) (r : Answer)
    → AreComputed → one ≡ topology → other ≡ topology → IsLawful one → IsTree (wiring_of topology) view node tree
    → node < length topology.loopbacks → to < length topology.loopbacks → dist ≡ dist_at tree to → hop ≡ next_at tree to
    → PutsWalk node to dist hop s t r other → Tells (tree_line topology view node to) s t r
walk_told topology one other view node to tree dist hop s t r computed same_one same_other lawful is from there is_dist is_hop told =
    let joins : JoinsNodes (wiring_of topology) = (subst IsLawful same_one lawful).joins_nodes in
    subst (PutsWalk node to dist hop s t r) same_other told view
    (is_dist ∙ computed.0 (wiring_of topology) view node to tree is joins from there)
    (is_hop ∙ computed.1 (wiring_of topology) view node to tree is joins from there)
