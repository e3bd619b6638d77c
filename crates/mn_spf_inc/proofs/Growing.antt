-- Ways are offered and followed.
use Rattle.std.proofs.Common.{ℕ, ◌≡◌, ◌≢◌, ◌+◌, ◌*◌, ◌^◌, ◌<◌, ◌≤◌, Bool, true, false, cond, List, [], ◌∷◌, length, get_or, set, refl, arith, sym, ◌∙◌, ap}
use Rattle.std.proofs.Common.{◌⊎◌, inl, inr, subst, get_or-set_other, get_or-set_same}
use Rattle.std.specs.Prelude.{Option, Some, None, count_by, Contains, MatchBool}
use Rattle.std.proofs.lemmas.Bool.{ltb-true}
use Rattle.std.proofs.lemmas.Bool.Decides.{eqb_tells}
use Rattle.std.proofs.lemmas.List.{length-set}
use Rattle.std.proofs.lemmas.List.Elements.{All-cons, Contains-append_cases}
use Rattle.std.proofs.lemmas.List.Sorted.{All-permutation, Contains-permutation, length_permutation}
use Rattle.std.proofs.lemmas.List.Sums.{sum_by-set}
use Rattle.mn_base.specs.declared.numbers.NodeNo.{NodeNo}
use Rattle.mn_wiring.specs.Wiring.{link}
use Rattle.mn_linkdb.specs.Network.{IsNetwork}
use Rattle.mn_linkdb.specs.Learned.{Learned}
use Rattle.mn_linkdb.specs.PathTable.{PathTable, dist_at, next_at, with_entries}
use Rattle.mn_spf.specs.Ways.{wiring_of, goes, rank, rank_in, rank_at, rank_over, AtMost, beats}
use Rattle.mn_spf.proofs.Walks.{link_is, beyond_below}
use Rattle.mn_spf.proofs.Best.{known_of, at_most_from}
use Rattle.mn_spf_inc.specs.declared.way.Way.{Way}
use Rattle.mn_spf_inc.specs.Ways.{rank_of, queued}
use Rattle.mn_spf_inc.specs.Mending.{State, IsFormed, IsHeld, IsRelaxed, is_blank, unknown, IsPending, IsGrowing, IsKnown, Takes, Offers, cost_in, hop_in}
use Rattle.mn_spf_inc.specs.Mending.{weight, work}
use Rattle.mn_spf_inc.proofs.Entries.{some_is, none_some, over, over_rank, over_more, over_fits, over_lower}
pub use Rattle.mn_spf.proofs.Steps.{contains_head, contains_tail}
use Rattle.mn_spf.proofs.Steps.{only_one, better_than, no_better}

-- 1. Members of a queue

pub contains_cases : {X : Type 0} (y x : X) (xs : List X) → Contains (y ∷ xs) x → (y ≡ x) ⊎ Contains xs x
contains_cases y x xs h = elim (Contains-append_cases (y ∷ []) xs x h) [ inl i ↦ inl (only_one y x i) | inr i ↦ inr i ]

-- 2. What a better way is

better_not : (r : ℕ) (o : Option ℕ) (known : ℕ) → beats r o ≡ true → o ≡ Some known → known ≤ r → ⊥
better_not r None known e q p = none_some known q
better_not r (Some k) known e q p = omega (arith, ltb-true r k e, some_is q, p)

-- 3. A node stays held by its neighbour, whatever is known of others and whatever other links are up
pub held_on : (v : Learned) (counts : List ℕ) (root : ℕ) (t t' : PathTable) (node known near : ℕ) (h : IsHeld v root t node known) →
    goes (record v { counts = counts }) h.from h.l ≡ true → rank_at t' h.from ≡ Some near → rank_over v root h.from near h.l ≤ known →
    IsHeld (record v { counts = counts }) root t' node known
held_on v counts root t t' node known near h g k low =
    record {
      from = h.from;
      l = h.l;
      near = near;
      there = h.there;
      goes_on = g;
      leads = h.leads;
      is_known = k;
      no_worse = low;
    }

-- so it does where entries get lower
pub held_lower : (v : Learned) (root : ℕ) (t t' : PathTable) (node known : ℕ) →
    ((n most : ℕ) → AtMost (rank_at t n) most → AtMost (rank_at t' n) most) → IsHeld v root t node known → IsHeld v root t' node known
held_lower v root t t' node known lower h =
    let k : (k : ℕ) × (rank_at t' h.from ≡ Some k) × (k ≤ h.near) = known_of _ _ (lower h.from h.near (at_most_from _ _ _ h.is_known (omega arith))) in
    held_on v v.counts root t t' node known k.0 h h.goes_on k.1 (omega (arith, over_lower v root h.from k.0 h.near h.l k.2, h.no_worse))

-- 4. Counts
blank_counts : (ds : List (Option ℕ)) (to new : ℕ) → to < length ds →
    count_by is_blank (set ds to (Some new)) + cond (is_blank (get_or ds to None)) 1 0 ≡ count_by is_blank ds
blank_counts ds to new p = omega (arith, sum_by-set (λ o. cond (is_blank o) 1 0) ds to (Some new) None p)

fewer : (o : Option ℕ) (a b : ℕ) → a + cond (is_blank o) 1 0 ≡ b → a ≤ b
fewer None a b e = omega (arith, e)
fewer (Some c) a b e = omega (arith, e)

-- the cost of a way that is taken is within the bound, whether something was known or not
bound_kept : (o : Option ℕ) (n : Option NodeNo) (root node cost hop near c blank blank' nodes : ℕ) → beats (rank cost hop) (rank_in o n) ≡ true →
    IsFormed root node o n → blank' + cond (is_blank o) 1 0 ≡ blank →
    ((d : ℕ) → o ≡ Some d → d + 65535 * blank ≤ 65535 * nodes) → cost ≡ near + c → c < 65536 → near + 65535 * blank ≤ 65535 * nodes →
    cost + 65535 * blank' ≤ 65535 * nodes
bound_kept None n root node cost hop near c blank blank' nodes e f k b s l h = omega (arith, k, s, l, h)
bound_kept (Some d) None root node cost hop near c blank blank' nodes e f k b s l h = omega (arith, b d refl, k, ltb-true (rank cost hop) (rank d 0) e)
bound_kept (Some d) (Some m) root node cost hop near c blank blank' nodes e f k b s l h =
    omega (arith, b d refl, k, f.0, ltb-true (rank cost hop) (rank d m.0) e)

-- the weight falls
falls : (o : Option ℕ) (n : Option NodeNo) (root node cost hop : ℕ) → beats (rank cost hop) (rank_in o n) ≡ true → IsFormed root node o n → cost < 2 ^ 32 →
    hop < 65536 → rank cost hop < 65536 * cost_in o + hop_in n
falls None n root node cost hop e f p q = omega (arith, p, q)
falls (Some d) None root node cost hop e f p q = ltb-true (rank cost hop) (rank d 0) e
falls (Some d) (Some m) root node cost hop e f p q = ltb-true (rank cost hop) (rank d m.0) e

weight_set : (t : PathTable) (to cost hop : ℕ) → to < length t.dists → to < length t.nexts →
    weight (with_entries t to (Some cost) (Some (record { 0 = hop }))) + (65536 * cost_in (dist_at t to) + hop_in (next_at t to)) ≡ weight t + rank cost hop
weight_set t to cost hop p q = omega (arith, sum_by-set cost_in t.dists to (Some cost) None p, sum_by-set hop_in t.nexts to (Some (record { 0 = hop })) None q)

module _ (v : Learned) (root : ℕ) where
  -- 5. Which links rest
  pub eased : (Rest Rest' : ℕ → ℕ → Type 0) (s : State) → IsGrowing v root Rest s →
      ((n m known : ℕ) → n < v.nodes → goes v n m ≡ true → rank_at s.table n ≡ Some known → Rest n m →
      Rest' n m ⊎ (IsPending s n ⊎ IsRelaxed v root s.table n known m)) → IsGrowing v root Rest' s
  eased Rest Rest' s h f = assumption (relaxed, h)
    where
      relaxed : (n m known : ℕ) → n < v.nodes → goes v n m ≡ true → rank_at s.table n ≡ Some known →
          Rest' n m ⊎ (IsPending s n ⊎ IsRelaxed v root s.table n known m)
      relaxed n m known p g r = elim (h.relaxed n m known p g r) [ inl o ↦ f n m known p g r o | inr o ↦ inr o ]

module _ (v : Learned) (root : ℕ) (net : IsNetwork v.nodes v.ends) (here : root < v.nodes) where
  -- 6. A way is taken
  module _ (Rest Rest' : ℕ → ℕ → Type 0) (s s' : State) (w : Way) (l : ℕ) (h : IsGrowing v root Rest s) (k : IsKnown v root s.table w)
      (g : goes v w.to l ≡ true) (rest : (n m : ℕ) → goes v n m ≡ true → Rest n m → Rest' n m ⊎ ((n ≡ w.to) × (m ≡ l))) where
    abbrev new : Way
    new = over v root net s.table w k l

    to_below : new.to < v.nodes
    to_below = beyond_below v net w.to l g

    worse_relaxed : beats (rank_of new) (rank_at s.table new.to) ≡ false → IsRelaxed v root s.table w.to (rank_of w) l
    worse_relaxed e = subst (AtMost (rank_at s.table new.to)) (over_rank v root net s.table w k l) (no_better _ _ e)

    relaxed_at : (t : PathTable) (n m known : ℕ) → n ≡ w.to → m ≡ l → rank_at t n ≡ Some known → rank_at t w.to ≡ Some (rank_of w) →
        IsRelaxed v root t w.to (rank_of w) l → IsRelaxed v root t n known m
    relaxed_at t n m known p q r e a =
        let same : known ≡ rank_of w = some_is (sym r ∙ ap (rank_at t) p ∙ e) in
        subst (λ x. IsRelaxed v root t x known m) (sym p)
        (subst (λ x. IsRelaxed v root t w.to known x) (sym q) (subst (λ x. IsRelaxed v root t w.to x l) (sym same) a))

    -- the way is no better
    passed : beats (rank_of new) (rank_at s.table new.to) ≡ false → IsGrowing v root Rest' s
    passed e =
        eased v root Rest Rest' s h
        (λ n m known p x r o. elim (rest n m x o) [ inl o ↦ inl o | inr q ↦ inr (inr (relaxed_at s.table n m known q.0 q.1 r k.rank (worse_relaxed e))) ])

    -- the way is better
    module _ (better : beats (rank_of new) (rank_at s.table new.to) ≡ true) (t : Takes s s' new) where
      in_dists : new.to < length s.table.dists
      in_dists = omega (arith, h.one_each.dists, to_below)

      in_nexts : new.to < length s.table.nexts
      in_nexts = omega (arith, h.one_each.nexts, to_below)

      dist_to : dist_at s'.table new.to ≡ Some new.cost
      dist_to = ap (λ table. dist_at table new.to) t.table ∙ get_or-set_same s.table.dists new.to (Some new.cost) None in_dists

      next_to : next_at s'.table new.to ≡ Some (record { 0 = new.hop })
      next_to = ap (λ table. next_at table new.to) t.table ∙ get_or-set_same s.table.nexts new.to (Some (record { 0 = new.hop })) None in_nexts

      dist_off : (node : ℕ) → node ≢ new.to → dist_at s'.table node ≡ dist_at s.table node
      dist_off node q = ap (λ table. dist_at table node) t.table ∙ get_or-set_other s.table.dists new.to node (Some new.cost) None q

      next_off : (node : ℕ) → node ≢ new.to → next_at s'.table node ≡ next_at s.table node
      next_off node q = ap (λ table. next_at table node) t.table ∙ get_or-set_other s.table.nexts new.to node (Some (record { 0 = new.hop })) None q

      rank_to : rank_at s'.table new.to ≡ Some (rank_of new)
      rank_to = ap (λ o. rank_in o (next_at s'.table new.to)) dist_to ∙ ap (λ o. rank_in (Some new.cost) o) next_to

      rank_off : (node : ℕ) → node ≢ new.to → rank_at s'.table node ≡ rank_at s.table node
      rank_off node q = ap (λ o. rank_in o (next_at s'.table node)) (dist_off node q) ∙ ap (λ o. rank_in (dist_at s.table node) o) (next_off node q)

      rank_root : rank_at s.table root ≡ Some 0
      rank_root = ap (λ o. rank_in o (next_at s.table root)) h.root_cost ∙ ap (λ o. rank_in (Some 0) o) h.root_hop

      root_other : root ≢ new.to
      root_other q = better_not _ _ 0 better (ap (rank_at s.table) (sym q) ∙ rank_root) (omega arith)

      from_other : w.to ≢ new.to
      from_other q = better_not _ _ (rank_of w) better (ap (rank_at s.table) (sym q) ∙ k.rank) (omega (arith, over_more v root net s.table w k l g))

      -- what is known of a node gets no worse
      lower : (node most : ℕ) → AtMost (rank_at s.table node) most → AtMost (rank_at s'.table node) most
      lower node most a =
          elim (eqb_tells node new.to) [
            | inl e ↦ at_most_from _ _ _ (ap (rank_at s'.table) e.1 ∙ rank_to) (better_than _ _ _ better (subst (λ n. AtMost (rank_at s.table n) most) e.1 a))
            | inr e ↦ subst (λ o. AtMost o most) (sym (rank_off node e.1)) a
          ]

      known_still : IsKnown v root s'.table w
      known_still = record {
        there = k.there;
        fits = k.fits;
        cost = dist_off w.to from_other ∙ k.cost;
        rank = rank_off w.to from_other ∙ k.rank;
        start =
            k.start;
      }

      held_to : IsHeld v root s'.table new.to (rank_of new)
      held_to = record {
        from = w.to;
        l = l;
        near = rank_of w;
        there = k.there;
        goes_on = g;
        leads = refl;
        is_known = known_still.rank;
        no_worse =
            omega (arith, over_rank v root net s.table w k l);
      }

      formed_as : (node : ℕ) (o o' : Option ℕ) (n n' : Option NodeNo) → o ≡ o' → n ≡ n' → IsFormed root node o' n' → IsFormed root node o n
      formed_as node o o' n n' e f a = subst (λ x. IsFormed root node x n) (sym e) (subst (λ x. IsFormed root node o' x) (sym f) a)

      pending_to : IsPending s' new.to
      pending_to = (new, Contains-permutation _ _ _ t.queue (contains_head (queued new) s.queue), refl, rank_to)

      pending_still : (n : ℕ) → n ≢ new.to → IsPending s n → IsPending s' n
      pending_still n q p = (p.0, Contains-permutation _ _ _ t.queue (contains_tail (queued new) _ _ p.1), p.2, rank_off n q ∙ p.3)

      blanks : unknown s'.table + cond (is_blank (dist_at s.table new.to)) 1 0 ≡ unknown s.table
      blanks = ap (λ (x : PathTable). unknown x + cond (is_blank (dist_at s.table new.to)) 1 0) t.table ∙ blank_counts s.table.dists new.to new.cost in_dists

      bound_to : new.cost + 65535 * unknown s'.table ≤ 65535 * v.nodes
      bound_to =
          bound_kept (dist_at s.table new.to) (next_at s.table new.to) root new.to new.cost new.hop w.cost (link (wiring_of v) l).cost (unknown s.table)
          (unknown s'.table) v.nodes better (h.formed new.to to_below) blanks (λ d e. h.bounded new.to d to_below e) refl
          (link_is v net w.to l g).bounded (h.bounded w.to w.cost k.there k.cost)

      grown : IsGrowing v root Rest' s'
      grown =
          record {
            one_each = record {
              dists = ap (λ (table : PathTable). length table.dists) t.table ∙ length-set s.table.dists new.to _ ∙ h.one_each.dists;
              nexts = ap (λ (table : PathTable). length table.nexts) t.table ∙ length-set s.table.nexts new.to _ ∙ h.one_each.nexts;
            };
            root_cost = dist_off root root_other ∙ h.root_cost;
            root_hop = next_off root root_other ∙ h.root_hop;
            formed = λ node p.
                elim (eqb_tells node new.to) [
                  | inl e ↦ subst (λ n. IsFormed root n (dist_at s'.table n) (next_at s'.table n)) (sym e.1)
                      (formed_as new.to _ _ _ _ dist_to next_to (over_fits v root net s.table w k l g, (λ q. root_other (sym q))))
                  | inr e ↦ formed_as node _ _ _ _ (dist_off node e.1) (next_off node e.1) (h.formed node p)
                ];
            held = λ node known p q r.
                elim (eqb_tells node new.to) [
                  | inl e ↦ subst (λ n. IsHeld v root s'.table n known) (sym e.1)
                      (subst (λ n. IsHeld v root s'.table new.to n) (some_is (sym rank_to ∙ ap (rank_at s'.table) (sym e.1) ∙ r)) held_to)
                  | inr e ↦ held_lower v root s.table s'.table node known lower (h.held node known p q (sym (rank_off node e.1) ∙ r))
                ];
            relaxed = λ n m known p x r.
                elim (eqb_tells n new.to) [
                  | inl e ↦ inr (inl (subst (IsPending s') (sym e.1) pending_to))
                  | inr e ↦ elim (h.relaxed n m known p x (sym (rank_off n e.1) ∙ r)) [
                    | inl o ↦ elim (rest n m x o) [
                      | inl o ↦ inl o
                      | inr q ↦ inr
                          (inr (relaxed_at s'.table n m known q.0 q.1 r known_still.rank
                          (at_most_from _ _ _ rank_to (omega (arith, over_rank v root net s.table w k l)))))
                    ]
                    | inr o ↦ elim o [
                      | inl a ↦ inr (inl (pending_still n e.1 a))
                      | inr a ↦ inr (inr (lower _ _ a))
                    ]
                  ]
                ];
            ways = All-permutation (λ way. way.0.to < v.nodes) _ _ t.queue (All-cons (λ way. way.0.to < v.nodes) _ _ to_below h.ways);
            bounded = λ node cost p e.
                elim (eqb_tells node new.to) [
                  | inl q ↦ (let c : new.cost ≡ cost = some_is (sym dist_to ∙ ap (dist_at s'.table) (sym q.1) ∙ e) in omega (arith, bound_to, c))
                  | inr q ↦ omega (arith, h.bounded node cost p (sym (dist_off node q.1) ∙ e), fewer _ _ _ blanks)
                ];
          }

      less : work s' ≤ work s
      less =
          let cheap : new.cost < 2 ^ 32 = omega (arith, bound_to, net.few_nodes) in
          let f = falls (dist_at s.table new.to) (next_at s.table new.to) root new.to new.cost new.hop better (h.formed new.to to_below) cheap
          (over_fits v root net s.table w k l g) in
          omega (arith, f, weight_set s.table new.to new.cost new.hop in_dists in_nexts, ap weight t.table, length_permutation _ _ t.queue)

    -- what an offer leaves
    pub record IsOffered : Type 0 where
      pub growing : IsGrowing v root Rest' s'
      pub known : IsKnown v root s'.table w
      pub less : work s' ≤ work s
      pub cut : s'.cut ≡ s.cut

    offered_as : (b : Bool) → beats (rank_of new) (rank_at s.table new.to) ≡ b → MatchBool b (Takes s s' new) (s' ≡ s) → IsOffered
    offered_as true e t = record { growing = grown e t; known = known_still e t; less = less e t; cut = t.cut }
    offered_as false e t =
        record {
          growing = subst (IsGrowing v root Rest') (sym t) (passed e);
          known = subst (λ (x : State). IsKnown v root x.table w) (sym t) k;
          less = omega (arith, ap work t);
          cut = ap (λ (x : State). x.cut) t;
        }

    pub offered : Offers s s' new → IsOffered
    offered o = offered_as _ refl o
