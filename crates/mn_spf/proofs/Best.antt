-- What the search knows in the end is a tree of least walks.
use Rattle.std.proofs.Common.{ℕ, ◌≡◌, ◌≢◌, ◌+◌, ◌*◌, ◌<◌, ◌≤◌, ◌==◌, Bool, true, false, List, [], ◌∷◌, length, refl, arith, sym, ◌∙◌, ap, subst}
use Rattle.std.specs.Prelude.{Option, Some, None, if◌then◌else◌}
use Rattle.mn_base.specs.declared.numbers.NodeNo.{NodeNo}
use Rattle.mn_wiring.specs.Wiring.{Wiring, link}
use Rattle.mn_wiring.specs.Paths.{walk_end, cost_of, IsLeast, IsDist, IsOnLeast}
use Rattle.mn_linkdb.specs.Network.{IsNetwork}
use Rattle.mn_linkdb.specs.Learned.{Learned, IsOf, links_up}
use Rattle.mn_linkdb.specs.PathTable.{PathTable, dist_at, next_at}
use Rattle.mn_linkdb.specs.Trees.{IsTree, IsNextHop}
use Rattle.mn_spf.specs.Ways.{wiring_of, goes, beyond, IsWalked, rank, rank_in, rank_at, AtMost}
use Rattle.mn_spf.specs.Search.{IsDone, IsFound}
use Rattle.std.proofs.lemmas.Bool.{lt-ltb}
use Rattle.mn_spf.proofs.Walks.{all_true, gone, same_node, goes_at, link_is, beyond_below, walk_same, cost_same}
pub use Rattle.mn_base.proofs.Bools.{same_test as eqb_same}

-- 1. Bounds on what is known
pub at_most_more : (o : Option ℕ) (a b : ℕ) → AtMost o a → a ≤ b → AtMost o b
at_most_more None a b h p = absurd h
at_most_more (Some k) a b h p = omega (arith, h, p)

pub known_of : (o : Option ℕ) (a : ℕ) → AtMost o a → (k : ℕ) × (o ≡ Some k) × (k ≤ a)
known_of None a h = absurd h
known_of (Some k) a h = (k, refl, h)

pub at_most_is : (o : Option ℕ) (k a : ℕ) → o ≡ Some k → AtMost o a → k ≤ a
at_most_is None k a e h = absurd h
at_most_is (Some j) k a e h = let f : j ≡ k = same_node e in omega (arith, f, h)

pub at_most_from : (o : Option ℕ) (k a : ℕ) → o ≡ Some k → k ≤ a → AtMost o a
at_most_from None k a e p = cc
at_most_from (Some j) k a e p = let f : j ≡ k = same_node e in omega (arith, f, p)

over_at_most : (b : Bool) (cost far known most : ℕ) → far < 65536 → 65536 ≤ most → known ≤ most →
    (if b then rank cost far else known + 65536 * cost) ≤ most + 65536 * cost
over_at_most true cost far known most p q r = omega (arith, p, q)
over_at_most false cost far known most p q r = omega (arith, r)

over_root : (b : Bool) (cost far : ℕ) → b ≡ true → (if b then rank cost far else 0 + 65536 * cost) ≡ rank cost far
over_root true cost far e = refl
over_root false cost far e = cc

cost_least : (d hop cost far : ℕ) → far < 65536 → rank d hop ≤ rank cost far → d ≤ cost
cost_least d hop cost far p q = omega (arith, p, q)

hop_least : (d hop cost far : ℕ) → cost ≡ d → rank d hop ≤ rank cost far → hop ≤ far
hop_least d hop cost far e q = omega (arith, e, q)

less_rest : (c a b : ℕ) (d : ℕ) → c + a ≡ d → d ≤ c + b → a ≤ b
less_rest c a b d e p = omega (arith, e, p)

module _ (v : Learned) (root : ℕ) (t : PathTable) (net : IsNetwork v.nodes v.ends) (here : root < v.nodes) (h : IsDone v root t) where
  far_small : (node l : ℕ) → goes v node l ≡ true → beyond v node l < 65536
  far_small node l g = omega (arith, beyond_below v net node l g, net.few_nodes)

  -- 2. No walk is better
  no_less : (ls : List ℕ) (x most to : ℕ) → x < v.nodes → AtMost (rank_at t x) most → 65536 ≤ most → walk_end (wiring_of v) (links_up v) x ls ≡ Some to →
      AtMost (rank_at t to) (most + 65536 * cost_of (wiring_of v) ls)
  no_less [] x most to p a q w = subst (λ n. AtMost (rank_at t n) (most + 65536 * 0)) (same_node w) (at_most_more (rank_at t x) most _ a (omega arith))
  no_less (l ∷ ls) x most to p a q w =
      let g : (goes v x l ≡ true) × (walk_end (wiring_of v) (links_up v) (beyond v x l) ls ≡ Some to) = gone _ _ w in
      let k : (k : ℕ) × (rank_at t x ≡ Some k) × (k ≤ most) = known_of _ _ a in
      let c = (link (wiring_of v) l).cost in
      at_most_more (rank_at t to) _ _
      (no_less ls (beyond v x l) (most + 65536 * c) to (beyond_below v net x l g.0)
      (at_most_more _ _ _ (h.relaxed x l k.0 p g.0 k.1) (over_at_most (x == root) c (beyond v x l) k.0 most (far_small x l g.0) q k.2))
      (omega (arith, q)) g.1)
      (omega arith)

  rank_root : rank_at t root ≡ Some 0
  rank_root = ap (λ o. rank_in o (next_at t root)) h.root_cost ∙ ap (λ o. rank_in (Some 0) o) h.root_hop

  least_rank : (l : ℕ) (ls : List ℕ) (to : ℕ) → walk_end (wiring_of v) (links_up v) root (l ∷ ls) ≡ Some to →
      AtMost (rank_at t to) (rank (cost_of (wiring_of v) (l ∷ ls)) (beyond v root l))
  least_rank l ls to w =
      let g : (goes v root l ≡ true) × (walk_end (wiring_of v) (links_up v) (beyond v root l) ls ≡ Some to) = gone _ _ w in
      let c = (link (wiring_of v) l).cost in
      let one : AtMost (rank_at t (beyond v root l)) (rank c (beyond v root l)) =
      subst (AtMost (rank_at t (beyond v root l))) (over_root (root == root) c (beyond v root l) (eqb_same root))
      (h.relaxed root l 0 here g.0 rank_root) in
      at_most_more (rank_at t to) _ _
      (no_less ls (beyond v root l) (rank c (beyond v root l)) to (beyond_below v net root l g.0) one (omega (arith, (link_is v net root l g.0).positive)) g.1)
      (omega arith)

  module _ (loopbacks : List ℕ) where
    abbrev wiring : Wiring
    wiring = record { loopbacks = loopbacks; ends = v.ends }

    abbrev leads_to : ℕ → ℕ → List ℕ → Type 0
    leads_to from to ls = walk_end wiring (links_up v) from ls ≡ Some to

    same_walk : (from to : ℕ) (ls : List ℕ) → leads_to from to ls → walk_end (wiring_of v) (links_up v) from ls ≡ Some to
    same_walk from to ls w = sym (walk_same v loopbacks ls from) ∙ w

    -- no walk costs less than what is known
    cheapest : (to d hop : ℕ) → rank_at t to ≡ Some (rank d hop) → (ls : List ℕ) → leads_to root to ls → (to ≡ root → d ≡ 0) → d ≤ cost_of wiring ls
    cheapest to d hop e [] w z = omega (arith, z (sym (same_node w)))
    cheapest to d hop e (l ∷ ls) w z =
        let g : (goes v root l ≡ true) × (walk_end wiring (links_up v) (beyond v root l) ls ≡ Some to) = gone _ _ w in
        omega (
          arith,
          cost_same v loopbacks (l ∷ ls),
          cost_least d hop _ _ (far_small root l g.0)
              (at_most_is _ _ _ e (least_rank l ls to (same_walk root to (l ∷ ls) w))),
        )

    no_cost_at_root : (to d : ℕ) → dist_at t to ≡ Some d → to ≡ root → d ≡ 0
    no_cost_at_root to d e r = same_node (sym e ∙ ap (dist_at t) r ∙ h.root_cost)

    none_is : ◌≡◌ {A = Option ℕ} None (Some 0) → ⊥
    none_is e = cc

    unreached : (to : ℕ) → dist_at t to ≡ None → (ls : List ℕ) → leads_to root to ls → ⊥
    unreached to e [] w = none_is (sym e ∙ ap (dist_at t) (sym (same_node w)) ∙ h.root_cost)
    unreached to e (l ∷ ls) w =
        subst (λ o. AtMost o (rank (cost_of (wiring_of v) (l ∷ ls)) (beyond v root l))) (ap (λ o. rank_in o (next_at t to)) e)
        (least_rank l ls to (same_walk root to (l ∷ ls) w))

    rank_is : (to d : ℕ) (hop : NodeNo) → dist_at t to ≡ Some d → next_at t to ≡ Some hop → rank_at t to ≡ Some (rank d hop.0)
    rank_is to d hop e f = ap (λ o. rank_in o (next_at t to)) e ∙ ap (λ o. rank_in (Some d) o) f

    walk_of : (to d hop : ℕ) → IsWalked v root to d hop → (ls : List ℕ) × leads_to root to ls × (cost_of wiring ls ≡ d)
    walk_of to d hop f = (f.first ∷ f.rest, walk_same v loopbacks (f.first ∷ f.rest) root ∙ f.leads, cost_same v loopbacks (f.first ∷ f.rest) ∙ f.costs)

    least_known : (to d : ℕ) (hop : NodeNo) → dist_at t to ≡ Some d → next_at t to ≡ Some hop → IsWalked v root to d hop.0 →
        IsLeast wiring (links_up v) root to d
    least_known to d hop e n f =
        record { walk = walk_of to d hop.0 f; least = λ ls w. cheapest to d hop.0 (rank_is to d hop e n) ls w (no_cost_at_root to d e) }

    -- 3. What is known is a least cost
    dist_is : (to : ℕ) (o : Option ℕ) (n : Option NodeNo) → dist_at t to ≡ o → next_at t to ≡ n → IsFound v root to o n → IsDist wiring (links_up v) root to o
    dist_is to (Some d) (Some hop) e n f = least_known to d hop e n f
    dist_is to (Some d) None e n f =
        record { walk = ([], ap (λ (x : ℕ). let p : Option ℕ = Some x in p) (sym f.0), sym f.1); least = λ ls w. omega (arith, f.1) }
    dist_is to None hop e n f = unreached to e

    -- 4. and a next hop
    on_least : (to d : ℕ) (hop : NodeNo) → dist_at t to ≡ Some d → next_at t to ≡ Some hop →
        (f : IsWalked v root to d hop.0) → IsOnLeast wiring (links_up v) root to f.first
    on_least to d hop e n f =
        let g : (goes v root f.first ≡ true) × (walk_end (wiring_of v) (links_up v) (beyond v root f.first) f.rest ≡ Some to) = gone _ _ f.leads in
        let least : IsLeast wiring (links_up v) root to d = least_known to d hop e n f in
        let cost : (link wiring f.first).cost + cost_of wiring f.rest ≡ d = cost_same v loopbacks (f.first ∷ f.rest) ∙ f.costs in
        record {
          there = (goes_at v root f.first g.0).there;
          at_node = (goes_at v root f.first g.0).at_node;
          up = (goes_at v root f.first g.0).up;
          rest = cost_of wiring f.rest;
          after = record {
            walk = (f.rest, walk_same v loopbacks f.rest (beyond v root f.first) ∙ g.1, refl);
            least = λ ls w. less_rest _ _ _ d cost (least.least (f.first ∷ ls) (rw g.0 w));
          };
          whole = subst (IsLeast wiring (links_up v) root to) (sym cost) least;
        }

    goes_first : (to l : ℕ) → IsOnLeast wiring (links_up v) root to l → goes v root l ≡ true
    goes_first to l o = all_true _ _ _ o.up o.at_node (lt-ltb _ _ o.there)

    nearest_hop : (to d : ℕ) (hop : NodeNo) → dist_at t to ≡ Some d → next_at t to ≡ Some hop → IsWalked v root to d hop.0 →
        (l : ℕ) → IsOnLeast wiring (links_up v) root to l → hop.0 ≤ beyond v root l
    nearest_hop to d hop e n f l o =
        let least : IsLeast wiring (links_up v) root to d = least_known to d hop e n f in
        let g : goes v root l ≡ true = goes_first to l o in
        let ls : List ℕ = o.after.walk.0 in
        let w : leads_to root to (l ∷ ls) = rw g o.after.walk.1 in
        let one : (link wiring l).cost + o.rest ≤ d = omega (arith, o.whole.least least.walk.0 least.walk.1, least.walk.2) in
        let other : d ≤ (link wiring l).cost + o.rest = omega (arith, least.least (l ∷ ls) w, o.after.walk.2) in
        hop_least d hop.0 _ _ (sym (cost_same v loopbacks (l ∷ ls)) ∙ (let q : cost_of wiring (l ∷ ls) ≡ d = omega (arith, one, other, o.after.walk.2) in
        q)) (at_most_is _ _ _ (rank_is to d hop e n) (least_rank l ls to (same_walk root to (l ∷ ls) w)))

    some_none : {X : Type 0} (x : X) → ◌≡◌ {A = Option X} (Some x) None → ⊥
    some_none x e = cc

    next_is : (to : ℕ) (o : Option ℕ) (n : Option NodeNo) → to ≢ root → dist_at t to ≡ o → next_at t to ≡ n → IsFound v root to o n →
        IsNextHop wiring (links_up v) root to n
    next_is to (Some d) (Some hop) r e n f = (f.first, (sym f.by_hop, on_least to d hop e n f, nearest_hop to d hop e n f))
    next_is to (Some d) None r e n f = absurd (r f.0)
    next_is to None None r e n f = unreached to e
    next_is to None (Some hop) r e n f = absurd (some_none hop f)

    in_range : (to : ℕ) → length loopbacks ≡ v.nodes → to < length loopbacks → to < v.nodes
    in_range to e p = omega (arith, e, p)

    tree_among : length loopbacks ≡ v.nodes → IsTree wiring (links_up v) root t
    tree_among e =
        record {
          one_each = record { dists = h.one_each.dists ∙ sym e; nexts = h.one_each.nexts ∙ sym e };
          dists = λ to p. dist_is to _ _ refl refl (h.found to (in_range to e p));
          nexts = λ to p r. next_is to _ _ r refl refl (h.found to (in_range to e p));
          root_itself = h.root_hop;
        }

  pub tree_is : (wiring : Wiring) → IsOf wiring v → IsTree wiring (links_up v) root t
  tree_is wiring o =
      subst (λ ends. IsTree (record { loopbacks = wiring.loopbacks; ends = ends }) (links_up v) root t) (sym o.ends) (tree_among wiring.loopbacks o.nodes)
