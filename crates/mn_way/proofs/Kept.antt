-- What is known of the tree of an edge, and of the links at a node.
use Rattle.std.proofs.Common.{ℕ, ◌≡◌, ◌≢◌, ◌<◌, Bool, false, List, [], length, get_or, replicate, refl, sym, ◌∙◌, ap, subst, Option}
use Rattle.std.specs.Prelude.{IfSome}
use Rattle.std.proofs.lemmas.List.{get_or-map, get_or_default, length-map, length-replicate}
use Rattle.mn_base.specs.declared.numbers.LinkNo.{LinkNo}
use Rattle.mn_base.specs.declared.numbers.NodeNo.{NodeNo}
use Rattle.mn_wiring.specs.declared.links.LinkEnds.{LinkEnds}
use Rattle.mn_wiring.specs.Wiring.{Wiring, JoinsNodes, links_at}
use Rattle.mn_wiring.specs.Paths.{dist_in, dists_to, next}
use Rattle.mn_linkdb.specs.Learned.{Learned}
use Rattle.mn_linkdb.specs.Network.{IsNetwork}
use Rattle.mn_linkdb.specs.PathTable.{PathTable, dist_at}
use Rattle.mn_linkdb.specs.Trees.{IsTree}
use Rattle.mn_spf_inc.specs.Mended.{Mended}
use Rattle.mn_spf_inc.specs.Mended.{IsOver as IsOverTree}
use Rattle.mn_toward.specs.Toward.{wired, as_hop, nearest_over}
use Rattle.mn_way.proofs.Least.{joins-nodes, cost-is, cost-fits, hop-is, hop-there}
use Rattle.mn_way.specs.Switched.{Switched, AreAtNode, Follows, IsKept, IsOver, edge_at, roots_of}

-- the tree of the links that are up in it
abbrev pub IsOwn : Mended → Type 0
IsOwn m = m.failed ≡ false → (wiring : Wiring) → IsOverTree wiring m → IsTree wiring m.up m.root m.tree

-- a network of these nodes and links
abbrev pub plain : Switched → Wiring
plain s = record { loopbacks = replicate s.nodes 0; ends = s.ends }

pub plain-over : (s : Switched) → IsOver (plain s) s
plain-over s = record { nodes = length-replicate s.nodes 0; ends = refl }

module _ (links : Learned) (lists : List (List LinkNo)) (trees : List Mended) (up ldp : List Bool) (failed : Bool)
    (kept : IsKept links lists trees up ldp failed)
    (s : Switched) (view : record { nodes = links.nodes; ends = links.ends; edges = roots_of trees; up = up; ldp = ldp; failed = failed } ≡ s) where
  pub network-is : IsNetwork s.nodes s.ends
  network-is = subst (λ (x : Switched). IsNetwork x.nodes x.ends) view kept.network

  pub joins : (w : Wiring) → IsOver w s → JoinsNodes w
  joins w over = joins-nodes w s.nodes (subst (IsNetwork s.nodes) (sym over.ends) network-is) over.nodes

  pub links-are : (n : ℕ) (ls d : List LinkNo) → n < s.nodes → ls ≡ get_or lists n d → AreAtNode s.ends s.nodes n ls
  links-are n ls d below is =
      subst (λ (x : Switched). n < x.nodes → AreAtNode x.ends x.nodes n ls) view
      (λ h. subst (AreAtNode links.ends links.nodes n) (get_or_default lists n [] d (subst (λ k. n < k) (sym kept.by_node.one_each) h)
      ∙ sym is) (kept.by_node.at n h))
      below

  pub root-is : (e : ℕ) (m d : Mended) → e < length s.edges → m ≡ get_or trees e d → m.root ≡ edge_at s e
  root-is e m d inside is = subst (λ (x : Switched). e < length x.edges → m.root ≡ edge_at x e) view at_first inside
    where
      at_first : e < length (roots_of trees) → m.root ≡ get_or (roots_of trees) e 0
      at_first inside =
          ap (λ (t : Mended). t.root) is
          ∙ sym (get_or-map (λ (t : Mended). t.root) trees e d 0 (subst (λ n. e < n) (length-map trees (λ (t : Mended). t.root)) inside))

  pub tree-is : (e : ℕ) (m d : Mended) → s.failed ≡ false → e < length s.edges → m ≡ get_or trees e d → IsOwn m → (w : Wiring) → IsOver w s
      → IsTree w s.up (edge_at s e) m.tree
  tree-is e m d sound inside is own w over =
      subst (λ (x : Switched). x.failed ≡ false → e < length x.edges → IsOver w x → IsTree w x.up (edge_at x e) m.tree) view at_first sound inside over
    where
      at_first : failed ≡ false → e < length (roots_of trees)
          → IsOver w (record { nodes = links.nodes; ends = links.ends; edges = roots_of trees; up = up; ldp = ldp; failed = failed })
          → IsTree w up (get_or (roots_of trees) e 0) m.tree
      at_first sound inside over =
          let below : e < length trees = subst (λ n. e < n) (length-map trees (λ (t : Mended). t.root)) inside in
          let f : Follows links up m = subst (Follows links up) (sym is) (kept.follow sound e d below) in
          subst (λ r. IsTree w up r m.tree) (sym (get_or-map (λ (t : Mended). t.root) trees e d 0 below ∙ ap (λ (t : Mended). t.root) (sym is)))
          (subst (λ u. IsTree w u m.root m.tree) f.up (own f.sound w (record { nodes = over.nodes ∙ sym f.of.nodes; ends = over.ends ∙ sym f.of.ends })))

  -- its costs are those to the edge
  pub costs-are : (e : ℕ) (m d : Mended) → s.failed ≡ false → e < length s.edges → m ≡ get_or trees e d → IsOwn m → (w : Wiring) → IsOver w s → (n : ℕ) →
      n < s.nodes
      → dist_at m.tree n ≡ dist_in (dists_to w s.up (edge_at s e)) n
  costs-are e m d sound inside is own w over n below =
      cost-is w s.up (edge_at s e) m.tree (joins w over) (tree-is e m d sound inside is own w over) n (subst (λ k. n < k) (sym over.nodes) below)

  -- and fit
  pub costs-fit : (e : ℕ) (n : ℕ) (o : Option ℕ) → ((w : Wiring) → IsOver w s → o ≡ dist_in (dists_to w s.up (edge_at s e)) n) →
      IfSome o (λ cost. cost < 4294967295)
  costs-fit e n o is = cost-fits (plain s) s.nodes s.up (edge_at s e) n o network-is (length-replicate s.nodes 0) (is (plain s) (plain-over s))

  -- the next hop by it, over the links at the node
  pub hops-are : (e : ℕ) (m d : Mended) → s.failed ≡ false → e < length s.edges → m ≡ get_or trees e d → IsOwn m → (n : ℕ) → n < s.nodes → n ≢ edge_at s e
      → (ends : List LinkEnds) (ups : List Bool) (table : PathTable) (ls dls : List LinkNo) → ends ≡ links.ends → ups ≡ up → table ≡ m.tree →
      ls ≡ get_or lists n dls
      → (w : Wiring) → IsOver w s → nearest_over (wired ends) ups table.dists n ls ≡ next w s.up n (edge_at s e)
  hops-are e m d sound inside is own n below apart ends ups table ls dls ends-are ups-are table-is ls-are w over =
      ap (λ (x : List LinkEnds). nearest_over (wired x) ups table.dists n ls) (ends-are ∙ ap (λ (x : Switched). x.ends) view ∙ sym over.ends)
      ∙ ap (λ (x : List Bool). nearest_over (wired w.ends) x table.dists n ls) (ups-are ∙ ap (λ (x : Switched). x.up) view)
      ∙ ap (λ (x : PathTable). nearest_over (wired w.ends) s.up x.dists n ls) table-is
      ∙ hop-is w s.up (edge_at s e) m.tree (joins w over) (tree-is e m d sound inside is own w over) n (subst (λ k. n < k) (sym over.nodes) below) apart
      ls ((links-are n ls dls below ls-are).these ∙ ap (λ (x : List LinkEnds). links_at (wired x) n) (sym over.ends))

  -- leads to a node that is there
  pub hops-there : (e : ℕ) (n : ℕ) → n < s.nodes → n ≢ edge_at s e → (o : Option (NodeNo × LinkNo))
      → ((w : Wiring) → IsOver w s → as_hop o ≡ next w s.up n (edge_at s e)) → IfSome o (λ hop. (hop.0.0 < s.nodes) × (hop.1.0 < length s.ends))
  hops-there e n below apart o is =
      subst (λ k. IfSome o (λ hop. (hop.0.0 < k) × (hop.1.0 < length s.ends))) (length-replicate s.nodes 0)
      (hop-there (plain s) s.up (edge_at s e) (joins (plain s) (plain-over s)) n (subst (λ k. n < k) (sym (length-replicate s.nodes 0)) below) apart o
      (is (plain s) (plain-over s)))
