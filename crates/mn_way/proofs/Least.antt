-- What the tree of an edge says of a node is what is computed for the node by itself.
use Rattle.std.proofs.Common.{ℕ, suc, ◌≡◌, ◌≢◌, ◌*◌, ◌<◌, ◌≤◌, inl, inr, true, false, List, [], ◌∷◌, filter, length, refl, arith, sym, ◌∙◌, ap, subst}
use Rattle.std.proofs.Common.{Option, None, Some}
use Rattle.std.specs.Prelude.{◌==◌, IfSome}
use Rattle.std.proofs.lemmas.List.{get_or_past}
use Rattle.std.proofs.lemmas.Bool.Decides.{leb_tells}
use Rattle.mn_base.specs.declared.numbers.LinkNo.{LinkNo}
use Rattle.mn_base.specs.declared.numbers.NodeNo.{NodeNo}
use Rattle.mn_base.proofs.Bools.{same_test}
use Rattle.mn_wiring.specs.declared.links.LinkEnds.{LinkEnds}
use Rattle.mn_wiring.specs.Wiring.{Wiring, View, JoinsNodes, link, across, links_at}
use Rattle.mn_wiring.specs.Paths.{IsDist, IsNext, dist_in, dists_to, is_on_least, nearer, nearest, next, next_by}
use Rattle.mn_wiring.proofs.Dist.{cond_below, dists_are_least}
use Rattle.mn_wiring.proofs.Next.{next_is}
use Rattle.mn_linkdb.specs.Network.{IsNetwork}
use Rattle.mn_linkdb.specs.PathTable.{PathTable, dist_at}
use Rattle.mn_linkdb.specs.Trees.{IsTree}
use Rattle.mn_toward.specs.Toward.{wired, as_hop, numbers_of, nearest_over}
use Rattle.mn_toward_laws.proofs.Back.{same_cost, leads}
use Rattle.mn_way.proofs.Bound.{AtMost, dist-most}

abbrev nothing : LinkEnds
nothing = record { a = record { 0 = 0 }; b = record { 0 = 0 }; cost = 0; delay = 0; loss = 0; life = 0 }

-- 1. What a network's links have

pub joins-nodes : (w : Wiring) (nodes : ℕ) → IsNetwork nodes w.ends → length w.loopbacks ≡ nodes → JoinsNodes w
joins-nodes w nodes network same l h =
    let it = network.links l nothing h in
    (subst (λ n. (link w l).a.0 < n) (sym same) it.from, subst (λ n. (link w l).b.0 < n) (sym same) it.to)

costs-small : (w : Wiring) (nodes : ℕ) → IsNetwork nodes w.ends → (l : ℕ) → (link w l).cost ≤ 65535
costs-small w nodes network l = elim (leb_tells (suc l) (length w.ends)) [
  | inl p ↦ small (network.links l nothing p.1).bounded
  | inr p ↦ none (ap (λ (e : LinkEnds). e.cost) (get_or_past w.ends l nothing (past p.1)))
]
  where
    small : {c : ℕ} → c < 65536 → c ≤ 65535
    small h = omega (arith, h)

    past : {n : ℕ} → n < suc l → n ≤ l
    past h = omega (arith, h)

    none : {c : ℕ} → c ≡ 0 → c ≤ 65535
    none h = omega (arith, h)

-- 2. Least costs

pub one-dist : (w : Wiring) (v : View) (a b : ℕ) (o q : Option ℕ) → IsDist w v a b o → IsDist w v a b q → o ≡ q
one-dist w v a b (Some c) (Some d) h g =
    ap (λ n. Some n) (both (subst (λ n. c ≤ n) g.walk.2 (h.least g.walk.0 g.walk.1)) (subst (λ n. d ≤ n) h.walk.2 (g.least h.walk.0 h.walk.1)))
  where
    both : {x y : ℕ} → x ≤ y → y ≤ x → x ≡ y
    both p q = omega (arith, p, q)
one-dist w v a b (Some c) None h g = absurd (g h.walk.0 h.walk.1)
one-dist w v a b None (Some d) h g = absurd (h g.walk.0 g.walk.1)
one-dist w v a b None None h g = refl

pub cost-is : (w : Wiring) (v : View) (root : ℕ) (table : PathTable) → JoinsNodes w → IsTree w v root table → (n : ℕ) → n < length w.loopbacks
    → dist_at table n ≡ dist_in (dists_to w v root) n
cost-is w v root table joins tree n below =
    one-dist w v root n (dist_at table n) (dist_in (dists_to w v root) n) (tree.dists n below)
    (same_cost w v n root (dist_in (dists_to w v root) n) (dists_are_least w v root joins n below))

pub cost-fits : (w : Wiring) (nodes : ℕ) (v : View) (to n : ℕ) (o : Option ℕ) → IsNetwork nodes w.ends → length w.loopbacks ≡ nodes
    → o ≡ dist_in (dists_to w v to) n → IfSome o (λ cost. cost < 4294967295)
cost-fits w nodes v to n o network same is =
    by o (subst (λ q. AtMost q (65535 * length w.loopbacks)) (sym is) (dist-most w v to (costs-small w nodes network) n))
  where
    few : length w.loopbacks ≤ 256
    few = subst (λ n. n ≤ 256) (sym same) network.few_nodes

    by : (o : Option ℕ) → AtMost o (65535 * length w.loopbacks) → IfSome o (λ cost. cost < 4294967295)
    by None h = tt
    by (Some cost) h = omega (arith, h, few)

-- 3. Next hops

nearest-same : (w : Wiring) (n : ℕ) (ls : List ℕ) → nearest (wired w.ends) n ls ≡ nearest w n ls
nearest-same w n [] = refl
nearest-same w n (l ∷ ls) = ap (nearer (across w l n, l)) (nearest-same w n ls)

pub hop-is : (w : Wiring) (v : View) (root : ℕ) (table : PathTable) → JoinsNodes w → IsTree w v root table → (n : ℕ) → n < length w.loopbacks → n ≢ root
    → (links : List LinkNo) → numbers_of links ≡ links_at (wired w.ends) n → nearest_over (wired w.ends) v table.dists n links ≡ next w v n root
hop-is w v root table joins tree n below apart links these =
    nearest-same w n (filter (is_on_least w v table.dists n) (numbers_of links))
    ∙ ap (λ ls. nearest w n (filter (is_on_least w v table.dists n) ls)) these
    ∙ sym (leads w v root table joins tree n below apart)

pub none-here : (w : Wiring) (v : View) (n root : ℕ) → n ≡ root → None ≡ next w v n root
unfolding next
none-here w v n root same =
    sym (ap (λ b. elim b as (λ _. Option (ℕ × ℕ)) [ true ↦ None | false ↦ next_by w v (dists_to w v root) n ]) (ap (λ k. n == k) (sym same) ∙ same_test n))

pub hop-there : (w : Wiring) (v : View) (root : ℕ) → JoinsNodes w → (n : ℕ) → n < length w.loopbacks → n ≢ root → (o : Option (NodeNo × LinkNo))
    → as_hop o ≡ next w v n root → IfSome o (λ hop. (hop.0.0 < length w.loopbacks) × (hop.1.0 < length w.ends))
hop-there w v root joins n below apart o is = by o (subst (IsNext w v n root) (sym is) (next_is w v root joins n below apart))
  where
    by : (o : Option (NodeNo × LinkNo)) → IsNext w v n root (as_hop o) → IfSome o (λ hop. (hop.0.0 < length w.loopbacks) × (hop.1.0 < length w.ends))
    by None h = tt
    by (Some hop) h =
        let ends = joins hop.1.0 h.1.there in (
          subst (λ k. k < length w.loopbacks) (sym h.0) (cond_below ((link w hop.1.0).a.0 == n) (link w hop.1.0).b.0 (link w hop.1.0).a.0 _ ends.1 ends.0),
          h.1.there,
        )
