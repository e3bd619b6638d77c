-- Where none flies, the lines of the trees are those over the links that are up.
use Rattle.std.proofs.Common.{◌≡◌, ◌<◌, ℕ, inl, inr, List, [], ◌∷◌, ◌++◌, length, Option, Some, None, refl, arith, sym, ◌∙◌, ap}
use Rattle.std.specs.Prelude.{codes, decimal, ◌==◌, not, filter}
use Rattle.std.specs.List.{flat_map}
use Rattle.mn_base.specs.declared.numbers.NodeNo.{NodeNo}
use Rattle.mn_base.proofs.Members.{In, in_filter, in_range}
use Rattle.mn_wiring.specs.Wiring.{Wiring, View, JoinsNodes, EndsDiffer, nodes_of}
use Rattle.mn_wiring.specs.Paths.{dist_in, dists_to, next}
use Rattle.mn_linkdb.specs.PathTable.{PathTable, dist_at, next_at}
use Rattle.mn_linkdb.specs.Trees.{IsTree, hop_alone, computed_tree}
use Rattle.mn_lines.specs.Lines.{text}
use Rattle.mn_topo.specs.Network.{Network, wiring_of}
use Rattle.mn_flood_laws.specs.Flood.{FloodWorld, flooded}
use Rattle.mn_flood_laws.specs.Laws.{IsFlood}
use Rattle.mn_flood_laws.proofs.Quiet.{trees}
use Rattle.mn_output_laws.specs.Tables.{tree_line, walk_text}
use Rattle.mn_output_laws.specs.Files.{node_name}
use Rattle.mn_flood_run.specs.Report.{tree_text, trees_text, settled_text}

-- what the calls of the laws tell: each root has the tree that is computed, and the entries of a tree are the computed ones
abbrev pub HasTrees : Type 0
HasTrees = (wiring : Wiring) (view : View) (root : ℕ) → JoinsNodes wiring → root < length wiring.loopbacks →
    IsTree wiring view root (computed_tree wiring view root)

abbrev pub HasDists : Type 0
HasDists = (wiring : Wiring) (view : View) (root to : ℕ) (tree : PathTable) → IsTree wiring view root tree → JoinsNodes wiring
    → root < length wiring.loopbacks → to < length wiring.loopbacks → dist_at tree to ≡ dist_in (dists_to wiring view to) root

abbrev pub HasNexts : Type 0
HasNexts = (wiring : Wiring) (view : View) (root to : ℕ) (tree : PathTable) → IsTree wiring view root tree → JoinsNodes wiring
    → root < length wiring.loopbacks → to < length wiring.loopbacks → next_at tree to ≡ hop_alone (next wiring view root to)

near_same : (a b : NodeNo) → Some a ≡ Some b → a ≡ b
near_same a b e = cc

-- the same cost and the same neighbour make the same line
same_walk : (topology : Network) (dist : Option ℕ) (hop other_hop : Option (ℕ × ℕ)) → hop_alone hop ≡ hop_alone other_hop →
    walk_text topology dist hop ≡ walk_text topology dist other_hop
same_walk topology None None None f = refl
same_walk topology None None (Some b) f = refl
same_walk topology None (Some a) None f = refl
same_walk topology None (Some a) (Some b) f = refl
same_walk topology (Some cost) None None f = refl
same_walk topology (Some cost) None (Some b) f = cc
same_walk topology (Some cost) (Some a) None f = cc
same_walk topology (Some cost) (Some a) (Some b) f =
    let same : a.0 ≡ b.0 = ap (λ (n : NodeNo). n.0) (near_same (record { 0 = a.0 }) (record { 0 = b.0 }) f) in
    ap (λ n. text (codes " cost " ∷ decimal cost ∷ codes " next " ∷ node_name topology n ∷ codes "\n" ∷ [])) same

same_over : {X : Type 0} (f g : X → List ℕ) (xs : List X) → ((x : X) → In xs x → f x ≡ g x) → flat_map f xs ≡ flat_map g xs
same_over f g [] h = refl
same_over f g (x ∷ xs) h = ap (λ w. w ++ flat_map f xs) (h x (inl refl)) ∙ ap (λ w. g x ++ w) (same_over f g xs (λ y i. h y (inr i)))

within : (topology : Network) (node : ℕ) → In (nodes_of (wiring_of topology)) node → node < length topology.loopbacks
within topology node i = let h = in_range 0 (length topology.loopbacks) node i in omega (arith, h.1)

-- where every tree of a node over one view is its tree over another, the lines are the same
module _ (has_trees : HasTrees) (has_dists : HasDists) (has_nexts : HasNexts) (topology : Network) (joins : JoinsNodes (wiring_of topology)) (one other : View)
    (node : ℕ)
    (here : node < length topology.loopbacks) (knows : (table : PathTable) → IsTree (wiring_of topology) one node table →
    IsTree (wiring_of topology) other node table) where
  abbrev table : PathTable
  table = computed_tree (wiring_of topology) one node

  over_one : IsTree (wiring_of topology) one node table
  over_one = has_trees (wiring_of topology) one node joins here

  over_other : IsTree (wiring_of topology) other node table
  over_other = knows table over_one

  same_line : (to : ℕ) → to < length topology.loopbacks → tree_line topology one node to ≡ tree_line topology other node to
  same_line to there =
      let dist : dist_in (dists_to (wiring_of topology) one to) node ≡ dist_in (dists_to (wiring_of topology) other to) node =
      sym (has_dists (wiring_of topology) one node to table over_one joins here there)
      ∙ has_dists (wiring_of topology) other node to table over_other joins here there in
      let hop : hop_alone (next (wiring_of topology) one node to) ≡ hop_alone (next (wiring_of topology) other node to) =
      sym (has_nexts (wiring_of topology) one node to table over_one joins here there)
      ∙ has_nexts (wiring_of topology) other node to table over_other joins here there in
      ap (λ w. text (codes "tree " ∷ node_name topology node ∷ codes " to " ∷ node_name topology to ∷ w ∷ []))
      (ap (λ d. walk_text topology d (next (wiring_of topology) one node to)) dist
      ∙ same_walk topology (dist_in (dists_to (wiring_of topology) other to) node) (next (wiring_of topology) one node to)
      (next (wiring_of topology) other node to) hop)

  pub same_tree : tree_text topology one node ≡ tree_text topology other node
  same_tree = same_over (tree_line topology one node) (tree_line topology other node) (filter (λ to. not (to == node)) (nodes_of (wiring_of topology)))
      (λ to i. same_line to (within topology to (in_filter (λ to. not (to == node)) (nodes_of (wiring_of topology)) to i).0))

-- so it is for each node of a flood in which none flies
pub settled : HasTrees → HasDists → HasNexts → (topology : Network) (world : FloodWorld) → JoinsNodes (wiring_of topology) → EndsDiffer (wiring_of topology) →
    IsFlood (wiring_of topology) world → world.flying ≡ [] → trees_text topology world ≡ settled_text topology world.up
settled has_trees has_dists has_nexts topology world joins differ flood quiet =
    same_over (λ node. tree_text topology (flooded (wiring_of topology) world node) node) (λ node. tree_text topology world.up node)
    (nodes_of (wiring_of topology))
    (λ node i. same_tree has_trees has_dists has_nexts topology joins (flooded (wiring_of topology) world node) world.up node (within topology node i)
    (λ table is. trees (wiring_of topology) joins differ world flood quiet node table (within topology node i) is))
