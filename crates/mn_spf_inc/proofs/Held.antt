-- Where each node is held and over no link leads a better way, the entries are those of least walks.
use Rattle.std.proofs.Common.{ℕ, zero, suc, ◌≡◌, ◌≢◌, ◌+◌, ◌*◌, ◌<◌, ◌≤◌, ◌==◌, Bool, true, false, List, [], length, refl, arith, sym, ◌∙◌, ap, ◌⊎◌, inl}
use Rattle.std.proofs.Common.{inr, subst}
use Rattle.std.specs.Prelude.{Option, Some, None, if◌then◌else◌, Contains}
use Rattle.std.specs.declared.cmp.Reverse.{Reverse}
use Rattle.std.proofs.lemmas.Bool.Decides.{eqb_tells}
use Rattle.mn_base.proofs.Bools.{none_below, other_test}
use Rattle.mn_base.specs.declared.numbers.NodeNo.{NodeNo}
use Rattle.mn_wiring.specs.Wiring.{Wiring, link}
use Rattle.mn_linkdb.specs.Network.{IsNetwork}
use Rattle.mn_linkdb.specs.Learned.{Learned, links_up}
use Rattle.mn_linkdb.specs.PathTable.{PathTable, dist_at, next_at}
use Rattle.mn_linkdb.specs.Trees.{IsTree}
use Rattle.mn_spf.specs.Ways.{wiring_of, goes, beyond, IsWalked, rank, rank_in, rank_at, rank_over}
use Rattle.mn_spf.specs.Search.{IsDone, IsFound}
use Rattle.mn_spf.proofs.Walks.{link_is, beyond_below, walked_on, walked_first}
use Rattle.mn_spf.proofs.Best.{tree_is, at_most_is}
use Rattle.mn_spf_inc.specs.declared.way.Way.{Way}
use Rattle.mn_spf_inc.specs.Mending.{State, IsFormed, IsHeld, IsRelaxed, IsMended}
use Rattle.mn_spf_inc.proofs.Entries.{none_some, some_is, same_parts}

-- what is known of a node comes from this neighbour over this link
pub record IsFrom (v : Learned) (root : ℕ) (t : PathTable) (node cost hop : ℕ) : Type 0 where
  pub from : ℕ
  pub l : ℕ
  pub near : ℕ
  pub there : from < v.nodes
  pub goes_on : goes v from l ≡ true
  pub leads : beyond v from l ≡ node
  pub is_near : dist_at t from ≡ Some near
  pub sum : near + (link (wiring_of v) l).cost ≡ cost
  pub by_hop : ((from ≡ root) × (near ≡ 0) × (node ≡ hop)) ⊎ ((from ≢ root) × (next_at t from ≡ Some (record { 0 = hop })))

pub chosen_true : (b : Bool) (x y : ℕ) → b ≡ true → (if b then x else y) ≡ x
chosen_true true x y e = refl
chosen_true false x y e = cc

pub chosen_false : (b : Bool) (x y : ℕ) → b ≡ false → (if b then x else y) ≡ y
chosen_false true x y e = cc
chosen_false false x y e = refl

module _ (v : Learned) (root : ℕ) (net : IsNetwork v.nodes v.ends) (here : root < v.nodes) (t : PathTable) (root_cost : dist_at t root ≡ Some 0)
    (root_hop : next_at t root ≡ None) (formed : (node : ℕ) → node < v.nodes → IsFormed root node (dist_at t node) (next_at t node)) where
  rank_is : (node d : ℕ) (hop : NodeNo) → dist_at t node ≡ Some d → next_at t node ≡ Some hop → rank_at t node ≡ Some (rank d hop.0)
  rank_is node d hop e f = ap (λ o. rank_in o (next_at t node)) e ∙ ap (λ o. rank_in (Some d) o) f

  rank_root : rank_at t root ≡ Some 0
  rank_root = ap (λ o. rank_in o (next_at t root)) root_cost ∙ ap (λ o. rank_in (Some 0) o) root_hop

  -- the entries of the node that holds another
  far_parts : (from near : ℕ) (d : Option ℕ) (n : Option NodeNo) → dist_at t from ≡ d → next_at t from ≡ n → IsFormed root from d n → from ≢ root →
      rank_at t from ≡ Some near → (c : ℕ) × (h : NodeNo) × (dist_at t from ≡ Some c) × (next_at t from ≡ Some h) × (h.0 < 65536) × (near ≡ rank c h.0)
  far_parts from near None n e f m q k = absurd (none_some near (sym (ap (λ o. rank_in o (next_at t from)) e) ∙ k))
  far_parts from near (Some c) None e f m q k = absurd (q m)
  far_parts from near (Some c) (Some h) e f m q k = (c, h, e, f, m.0, sym (some_is (sym (rank_is from c h e f) ∙ k)))

  pub comes_from : (node cost : ℕ) (hop : NodeNo) → dist_at t node ≡ Some cost → next_at t node ≡ Some hop → hop.0 < 65536 →
      (h : IsHeld v root t node (rank cost hop.0)) → IsRelaxed v root t h.from h.near h.l → IsFrom v root t node cost hop.0
  comes_from node cost hop e f fits h r =
      let low : rank cost hop.0 ≤ rank_over v root h.from h.near h.l = at_most_is _ _ _ (ap (rank_at t) h.leads ∙ rank_is node cost hop e f) r in
      let same : rank_over v root h.from h.near h.l ≡ rank cost hop.0 = omega (arith, low, h.no_worse) in
      let small : beyond v h.from h.l < 65536 = omega (arith, beyond_below v net h.from h.l h.goes_on, net.few_nodes) in
      elim (eqb_tells h.from root) [
        | inl q ↦
            (let p : ((link (wiring_of v) h.l).cost ≡ cost) × (beyond v h.from h.l ≡ hop.0) =
            same_parts _ _ _ _ small fits (sym (chosen_true (h.from == root) _ _ q.0) ∙ same) in
            record {
              from = h.from;
              l = h.l;
              near = 0;
              there = h.there;
              goes_on = h.goes_on;
              leads = h.leads;
              is_near = ap (dist_at t) q.1 ∙ root_cost;
              sum = omega (arith, p.0);
              by_hop = inl (q.1, refl, sym h.leads ∙ p.1);
            })
        | inr q ↦
            (let k = far_parts h.from h.near _ _ refl refl (formed h.from h.there) q.1 h.is_known in
            let c = (link (wiring_of v) h.l).cost in
            let up : rank (k.0 + c) k.1.0 ≡ rank cost hop.0 =
            omega (arith, chosen_false (h.from == root) (rank c (beyond v h.from h.l)) (h.near + 65536 * c) (other_test _ _ q.1), same, k.5) in
            let p : (k.0 + c ≡ cost) × (k.1.0 ≡ hop.0) = same_parts _ _ _ _ k.4 fits up in
            record {
              from = h.from;
              l = h.l;
              near = k.0;
              there = h.there;
              goes_on = h.goes_on;
              leads = h.leads;
              is_near = k.2;
              sum = p.0;
              by_hop = inr (q.1, k.3 ∙ ap (λ (n : ℕ). let o : Option NodeNo = Some (record { 0 = n }) in o) p.1);
            })
      ]

  module _ (from_where : (node cost : ℕ) (hop : NodeNo) → node < v.nodes → dist_at t node ≡ Some cost → next_at t node ≡ Some hop →
      IsFrom v root t node cost hop.0) where
    -- the node that holds another has a walk, and the other has that walk and the link
    walked : (fuel node cost : ℕ) (hop : NodeNo) → cost < fuel → node < v.nodes → dist_at t node ≡ Some cost → next_at t node ≡ Some hop →
        IsWalked v root node cost hop.0
    walked zero node cost hop less p e f = absurd (none_below cost less)
    walked (suc fuel) node cost hop less p e f =
        let h = from_where node cost hop p e f in
        let far : IsWalked v root (beyond v h.from h.l) (h.near + (link (wiring_of v) h.l).cost) hop.0 =
        elim h.by_hop [
          | inl a ↦ subst (IsWalked v root (beyond v h.from h.l) (h.near + (link (wiring_of v) h.l).cost)) (h.leads ∙ a.2)
              (subst (λ n. IsWalked v root (beyond v n h.l) (h.near + (link (wiring_of v) h.l).cost) (beyond v n h.l)) (sym a.0)
              (walked_first v root h.l h.near a.1 (subst (λ n. goes v n h.l ≡ true) a.0 h.goes_on)))
          | inr a ↦ walked_on v root h.from h.l h.near hop.0
              (walked fuel h.from h.near (record { 0 = hop.0 }) (omega (arith, less, h.sum, (link_is v net h.from h.l h.goes_on).positive)) h.there
              h.is_near a.1) h.goes_on
        ] in
        subst (λ n. IsWalked v root n cost hop.0) h.leads (subst (λ n. IsWalked v root (beyond v h.from h.l) n hop.0) h.sum far)

    found_by : (node : ℕ) (d : Option ℕ) (n : Option NodeNo) → node < v.nodes → dist_at t node ≡ d → next_at t node ≡ n → IsFormed root node d n →
        IsFound v root node d n
    found_by node None n p e f m = m
    found_by node (Some cost) None p e f m = (m, some_is (sym e ∙ ap (dist_at t) m ∙ root_cost))
    found_by node (Some cost) (Some hop) p e f m = walked (suc cost) node cost hop (omega arith) p e f

    pub found : (node : ℕ) → node < v.nodes → IsFound v root node (dist_at t node) (next_at t node)
    found node p = found_by node _ _ p refl refl (formed node p)

not_queued : (w : Reverse Way) (q : List (Reverse Way)) → q ≡ [] → Contains q w → ⊥
not_queued w q e c = none_below c.0 (omega (arith, c.1, ap (λ (x : List (Reverse Way)). length x) e))

module _ (v : Learned) (root : ℕ) (net : IsNetwork v.nodes v.ends) (here : root < v.nodes) (s : State) (m : IsMended v root s) where
  pub all_relaxed : (node l known : ℕ) → node < v.nodes → goes v node l ≡ true → rank_at s.table node ≡ Some known → IsRelaxed v root s.table node known l
  all_relaxed node l known p g r =
      elim (m.stands.relaxed node l known p g r) [
        | inl o ↦ absurd o
        | inr o ↦ elim o [ inl w ↦ absurd (not_queued _ s.queue m.no_ways w.1) | inr a ↦ a ]
      ]

  formed_root : (node : ℕ) (d : Option ℕ) (n : Option NodeNo) (hop : NodeNo) → IsFormed root node d n → n ≡ Some hop → node ≢ root
  formed_root node None n hop f e = absurd (none_some hop (sym f ∙ e))
  formed_root node (Some cost) None hop f e = absurd (none_some hop e)
  formed_root node (Some cost) (Some hop') hop f e = f.1

  formed_fits : (node : ℕ) (d : Option ℕ) (n : Option NodeNo) (hop : NodeNo) → IsFormed root node d n → n ≡ Some hop → hop.0 < 65536
  formed_fits node None n hop f e = absurd (none_some hop (sym f ∙ e))
  formed_fits node (Some cost) None hop f e = absurd (none_some hop e)
  formed_fits node (Some cost) (Some hop') hop f e = subst (λ (h : NodeNo). h.0 < 65536) (some_is e) f.0

  done_from : (node cost : ℕ) (hop : NodeNo) → node < v.nodes → dist_at s.table node ≡ Some cost → next_at s.table node ≡ Some hop →
      IsFrom v root s.table node cost hop.0
  done_from node cost hop p e f =
      let t = s.table in
      let g = m.stands in
      let h : IsHeld v root t node (rank cost hop.0) =
      g.held node _ p (formed_root node _ _ hop (g.formed node p) f) (ap (λ o. rank_in o (next_at t node)) e ∙ ap (λ o. rank_in (Some cost) o) f) in
      comes_from v root net here t g.root_cost g.root_hop g.formed node cost hop e f (formed_fits node _ _ hop (g.formed node p) f) h
      (all_relaxed h.from h.l h.near h.there h.goes_on h.is_known)

  done : IsDone v root s.table
  done =
      record {
        one_each = m.stands.one_each;
        root_cost = m.stands.root_cost;
        root_hop = m.stands.root_hop;
        found = found v root net here s.table m.stands.root_cost m.stands.root_hop m.stands.formed done_from;
        relaxed = all_relaxed;
      }

  pub mended_tree : (wiring : Wiring) → length wiring.loopbacks ≡ v.nodes → wiring.ends ≡ v.ends → IsTree wiring (links_up v) root s.table
  mended_tree wiring e f = tree_is v root s.table net here done wiring (record { nodes = e; ends = f })
