-- The steps of the search keep what holds between them.
use Rattle.std.proofs.Common.{ℕ, ◌≡◌, ◌≢◌, ◌+◌, ◌*◌, ◌<◌, ◌≤◌, ◌==◌, Bool, true, false, cond, List, [], ◌∷◌, length, get_or, set, replicate, refl, arith}
use Rattle.std.proofs.Common.{sym, ◌∙◌, ap, ◌⊎◌, inl, inr, subst, get_or-set_other, get_or-set_same}
use Rattle.std.specs.Prelude.{Option, Some, None, if◌then◌else◌, not, nat_lt, count_by, All, Contains, MatchBool, IsPermutation}
use Rattle.std.specs.declared.cmp.Ordering.{Ordering}
use Rattle.std.specs.declared.cmp.Ordering.TheVariants.{Less, Equal, Greater}
use Rattle.std.specs.declared.cmp.Reverse.{Reverse}
use Rattle.std.specs.Ordering.{is_lt, ordering_then}
use Rattle.std.specs.BinaryHeap.{IsHeap, PopsGreatest}
use Rattle.std.proofs.lemmas.Bool.{eqb-true, ltb-true, ltb-false, cases_lt}
use Rattle.std.proofs.lemmas.Bool.Decides.{eqb_tells}
use Rattle.std.proofs.lemmas.List.{get_or-replicate, get_or_default, length-set, length-replicate}
use Rattle.std.proofs.lemmas.List.Elements.{All-nil, All-cons, All-tail, All-head, All-contains, All-weaker, All-from_recursion, Contains-append_right}
use Rattle.std.proofs.lemmas.List.Elements.{Contains-append_cases, Contains-push_cases}
use Rattle.std.proofs.lemmas.List.Sorted.{All-permutation, Contains-permutation}
use Rattle.std.proofs.lemmas.List.Sums.{sum_by-set, count_by-le-length}
use Rattle.mn_base.proofs.Bools.{none_below, two_ways}
use Rattle.mn_base.specs.declared.numbers.LinkNo.{LinkNo}
use Rattle.mn_base.specs.declared.numbers.NodeNo.{NodeNo}
use Rattle.mn_wiring.specs.Wiring.{link}
use Rattle.mn_linkdb.specs.Network.{IsNetwork}
use Rattle.mn_linkdb.specs.Learned.{Learned}
use Rattle.mn_linkdb.specs.PathTable.{PathTable, IsTable, dist_at, next_at, nothing_known, with_entries}
use Rattle.mn_spf.specs.declared.way.Way.{Way}
use Rattle.mn_spf.specs.Ways.{wiring_of, goes, beyond, IsWalked, rank, rank_of, rank_in, rank_at, worse_cmp, way_cmp, AtMost, beats, way_over, rank_over}
use Rattle.mn_spf.specs.Ways.{AreLinksAt}
use Rattle.mn_spf.specs.Search.{State, is_settled, unsettled, queued, IsFound, IsQueued, IsSearch, NoneOpen, AllOpen, OpenFrom, IsFollowed, Takes, Offers}
use Rattle.mn_spf.specs.Search.{IsDone}
use Rattle.mn_spf.proofs.Walks.{same_node, link_is, beyond_below, walked_on, walked_first}
use Rattle.mn_spf.proofs.Best.{at_most_more, known_of, at_most_from}

-- 1. Members of a queue
pub contains_head : {X : Type 0} (x : X) (xs : List X) → Contains (x ∷ xs) x
contains_head x xs = (0, omega arith, refl)

pub contains_tail : {X : Type 0} (y x : X) (xs : List X) → Contains xs x → Contains (y ∷ xs) x
contains_tail y x xs h = Contains-append_right (y ∷ []) xs x h

pub only_one : {X : Type 0} (y x : X) → Contains (y ∷ []) x → y ≡ x
only_one y x h = elim (Contains-push_cases [] y x h) [ inl i ↦ absurd (none_below i.0 i.1) | inr e ↦ e ]

contains_cases : {X : Type 0} (y x : X) (xs : List X) → Contains (y ∷ xs) x → (y ≡ x) ⊎ Contains xs x
contains_cases y x xs h = elim (Contains-append_cases (y ∷ []) xs x h) [ inl i ↦ inl (only_one y x i) | inr i ↦ inr i ]

All-both : {X : Type 0} (P Q : X → Type 0) {R : X → Type 0} → ((x : X) → P x → Q x → R x) → (xs : List X) → All P xs → All Q xs → All R xs
All-both P Q f xs p q = λ k d i. f _ (p k d i) (q k d i)

-- 2. Marks
apart : true ≢ false
apart e = cc

one_less : (marks : List Bool) (node : ℕ) → node < length marks → get_or marks node false ≡ false → count_by not (set marks node true) + 1 ≡ count_by not marks
one_less marks node p e =
    let f : ◌≡◌ {A = ℕ} (cond (not (get_or marks node false)) 1 0) 1 = ap (λ b. cond (not b) 1 0) e in
    omega (arith, sum_by-set (λ b. cond (not b) 1 0) marks node true false p, f)

-- 3. The order of ways
lt_false : (p q r t : Bool) (o : Ordering) →
    is_lt (ordering_then (cond p Less (cond q Equal Greater)) (ordering_then (cond r Less (cond t Equal Greater)) o)) ≡ false →
    (p ≡ false) × (q ≡ true → r ≡ false)
lt_false true q r t o h = cc
lt_false false true true t o h = cc
lt_false false true false t o h = (refl, λ e. refl)
lt_false false false r t o h = (refl, λ e. cc)

rank_by : (a b : Way) → is_lt (way_cmp a b) ≡ false → b.hop < 65536 → rank_of b ≤ rank_of a
rank_by a b h fits =
    let p : (nat_lt a.cost b.cost ≡ false) × ((a.cost == b.cost) ≡ true → nat_lt a.hop b.hop ≡ false) = lt_false _ _ _ _ _ h in
    let q : b.cost ≤ a.cost = ltb-false _ _ p.0 in
    elim (eqb_tells a.cost b.cost) [
      | inl e ↦ (let r : b.hop ≤ a.hop = ltb-false _ _ (p.1 e.0) in omega (arith, q, r))
      | inr e ↦ omega (arith, q, e.1, fits)
    ]

-- 4. What a better way is
pub better_than : (r : ℕ) (o : Option ℕ) (most : ℕ) → beats r o ≡ true → AtMost o most → r ≤ most
better_than r None most e h = absurd h
better_than r (Some k) most e h = omega (arith, ltb-true r k e, h)

pub no_better : (r : ℕ) (o : Option ℕ) → beats r o ≡ false → AtMost o r
no_better r None e = cc
no_better r (Some k) e = ltb-false r k e

better_not : (r : ℕ) (o : Option ℕ) (most : ℕ) → beats r o ≡ true → AtMost o most → most ≤ r → ⊥
better_not r None most e h p = h
better_not r (Some k) most e h p = omega (arith, ltb-true r k e, h, p)

-- 5. The way over a link
pub rank_chosen : (b : Bool) (cost c hop far : ℕ) →
    (b ≡ true → (cost ≡ 0) × (hop ≡ 0)) → rank (cost + c) (if b then far else hop) ≡ (if b then rank c far else rank cost hop + 65536 * c)
rank_chosen true cost c hop far z = omega (arith, (z refl).0)
rank_chosen false cost c hop far z = omega arith

no_lower : (b : Bool) (cost c hop far : ℕ) → (b ≡ true → (cost ≡ 0) × (hop ≡ 0)) → rank cost hop ≤ rank (cost + c) (if b then far else hop)
no_lower true cost c hop far z = omega (arith, (z refl).0, (z refl).1)
no_lower false cost c hop far z = omega arith

pub hop_fits : (b : Bool) (far hop : ℕ) → far < 65536 → hop < 65536 → (if b then far else hop) < 65536
hop_fits true far hop p q = p
hop_fits false far hop p q = q

chosen_true : (b : Bool) (x y : ℕ) → b ≡ true → x ≡ (if b then x else y)
chosen_true true x y e = refl
chosen_true false x y e = cc

chosen_false : (b : Bool) (x y : ℕ) → b ≡ false → y ≡ (if b then x else y)
chosen_false true x y e = cc
chosen_false false x y e = refl

-- of the links from a place on, the one that stands there, and those behind it
pub still : (at : ℕ) (links : List LinkNo) (i node l : ℕ) → OpenFrom at links i node l →
    OpenFrom at links (i + 1) node l ⊎ ((node ≡ at) × (i < length links) × ((get_or links i (record { 0 = l })).0 ≡ l))
still at links i node l o =
    elim (cases_lt i o.1) [
      | inl p ↦ inl (o.0, o.1, omega (arith, p), o.3, o.4)
      | inr p ↦ (let e : o.1 ≡ i = omega (arith, p, o.2) in inr (o.0, omega (arith, e, o.3), ap (λ k. (get_or links k (record { 0 = l })).0) (sym e) ∙ o.4))
    ]

-- over the link at this place leads no better way
abbrev IsRelaxed : Learned → ℕ → PathTable → ℕ → ℕ → ℕ → Type 0
IsRelaxed v root t node known l = AtMost (rank_at t (beyond v node l)) (rank_over v root node known l)

module _ (v : Learned) (root : ℕ) (net : IsNetwork v.nodes v.ends) (here : root < v.nodes) where
  abbrev over : Way → ℕ → Way
  over way l = way_over root way (link (wiring_of v) l)

  start_is : (s : State) (way : Way) → IsFollowed v root s way → (way.to == root) ≡ true → (way.cost ≡ 0) × (way.hop ≡ 0)
  start_is s way f e = elim f.found [ inl a ↦ (a.1, a.2) | inr a ↦ absurd (a.0 (eqb-true _ _ e)) ]

  over_rank : (s : State) (way : Way) (l : ℕ) → IsFollowed v root s way → rank_of (over way l) ≡ rank_over v root way.to (rank_of way) l
  over_rank s way l f = rank_chosen (way.to == root) way.cost _ way.hop _ (start_is s way f)

  over_higher : (s : State) (way : Way) (l : ℕ) → IsFollowed v root s way → rank_of way ≤ rank_of (over way l)
  over_higher s way l f = no_lower (way.to == root) way.cost _ way.hop _ (start_is s way f)

  over_fits : (s : State) (way : Way) (l : ℕ) → IsFollowed v root s way → goes v way.to l ≡ true → (over way l).hop < 65536
  over_fits s way l f g = hop_fits (way.to == root) _ way.hop (omega (arith, beyond_below v net way.to l g, net.few_nodes)) f.fits

  over_walked : (s : State) (way : Way) (l : ℕ) → IsFollowed v root s way → goes v way.to l ≡ true →
      IsWalked v root (over way l).to (over way l).cost (over way l).hop
  over_walked s way l f g =
      elim (eqb_tells way.to root) [
        | inl e ↦ subst (IsWalked v root (over way l).to (over way l).cost) (chosen_true (way.to == root) (beyond v way.to l) way.hop e.0)
            (subst (λ n. IsWalked v root (beyond v n l) (over way l).cost (beyond v n l)) (sym e.1)
            (walked_first v root l way.cost (start_is s way f e.0).0 (subst (λ n. goes v n l ≡ true) e.1 g)))
        | inr e ↦ subst (IsWalked v root (over way l).to (over way l).cost) (chosen_false (way.to == root) (beyond v way.to l) way.hop e.0)
            (elim f.found [
              | inl a ↦ absurd (e.1 a.0)
              | inr a ↦ walked_on v root way.to l way.cost way.hop a.1 g
            ])
      ]

  -- 6. Which links are open
  -- the link that stands at a place, whatever is answered past the end
  place_is : (links : List LinkNo) (i l : ℕ) (d : LinkNo) → i < length links → (get_or links i d).0 ≡ (get_or links i (record { 0 = l })).0
  place_is links i l d p = ap (λ (n : LinkNo). n.0) (get_or_default links i d (record { 0 = l }) p)

  same_known : {a b : ℕ} (o : Option ℕ) → o ≡ Some a → o ≡ Some b → a ≡ b
  same_known o e f = same_node (sym e ∙ f)

  relaxed_here : (t : PathTable) (at l k : ℕ) → IsRelaxed v root t at k l →
      (node m known : ℕ) → node ≡ at → m ≡ l → rank_at t node ≡ Some known → rank_at t at ≡ Some k → IsRelaxed v root t node known m
  relaxed_here t at l k h node m known p q r s =
      let e : known ≡ k = same_known (rank_at t at) (ap (rank_at t) (sym p) ∙ r) s in
      subst (λ n. IsRelaxed v root t n known m) (sym p) (subst (λ n. IsRelaxed v root t at known n) (sym q) (subst (λ n. IsRelaxed v root t at n l) (sym e) h))

  -- other links are open: each that was is open still, or no better way leads over it
  reopened : (Open Open' : ℕ → ℕ → Type 0) (limit : ℕ) (s : State) → IsSearch v root Open limit s →
      ((node m known : ℕ) → goes v node m ≡ true → rank_at s.table node ≡ Some known → Open node m → Open' node m ⊎ IsRelaxed v root s.table node known m) →
      IsSearch v root Open' limit s
  reopened Open Open' limit s h f = assumption (relaxed, h)
    where
      relaxed : (node m known : ℕ) → node < v.nodes → is_settled s node ≡ true → goes v node m ≡ true → rank_at s.table node ≡ Some known →
          Open' node m ⊎ IsRelaxed v root s.table node known m
      relaxed node m known p e x r = elim (h.relaxed node m known p e x r) [ inl o ↦ f node m known x r o | inr a ↦ inr a ]

  -- 7. A way is offered
  module _ (s : State) (way : Way) (links : List LinkNo) (i l : ℕ) (h : IsSearch v root (OpenFrom way.to links i) (rank_of way) s)
      (f : IsFollowed v root s way) (g : goes v way.to l ≡ true) (is : i < length links → (d : LinkNo) → (get_or links i d).0 ≡ l) where
    abbrev new : Way
    new = over way l

    to_below : new.to < v.nodes
    to_below = beyond_below v net way.to l g

    it_is : (m : ℕ) → i < length links → (get_or links i (record { 0 = m })).0 ≡ m → m ≡ l
    it_is m p e = sym e ∙ is p (record { 0 = m })

    -- the way is no better
    kept : beats (rank_of new) (rank_at s.table new.to) ≡ false → IsSearch v root (OpenFrom way.to links (i + 1)) (rank_of way) s
    kept worse =
        reopened (OpenFrom way.to links i) (OpenFrom way.to links (i + 1)) (rank_of way) s h (λ node m known x r o. elim (still way.to links i node m o) [
          | inl o ↦ inl o
          | inr o ↦ inr
              (relaxed_here s.table way.to l (rank_of way) (subst (AtMost (rank_at s.table new.to)) (over_rank s way l f) (no_better _ _ worse)) node m known
              o.0
              (it_is m o.1 o.2) r f.known)
        ])

    -- the way is better
    module _ (s' : State) (better : beats (rank_of new) (rank_at s.table new.to) ≡ true) (t : Takes s s' new) where
      settled_other : (node : ℕ) → node < v.nodes → is_settled s node ≡ true → node ≢ new.to
      settled_other node p e q =
          better_not _ _ _ better (h.done new.to to_below (subst (λ n. is_settled s n ≡ true) q e)) (over_higher s way l f)

      dist_to : dist_at s'.table new.to ≡ Some new.cost
      dist_to =
          ap (λ table. dist_at table new.to) t.table ∙ get_or-set_same s.table.dists new.to (Some new.cost) None (omega (arith, h.one_each.dists, to_below))

      next_to : next_at s'.table new.to ≡ Some (record { 0 = new.hop })
      next_to =
          ap (λ table. next_at table new.to) t.table
          ∙ get_or-set_same s.table.nexts new.to (Some (record { 0 = new.hop })) None (omega (arith, h.one_each.nexts, to_below))

      dist_off : (node : ℕ) → node ≢ new.to → dist_at s'.table node ≡ dist_at s.table node
      dist_off node q = ap (λ table. dist_at table node) t.table ∙ get_or-set_other s.table.dists new.to node (Some new.cost) None q

      next_off : (node : ℕ) → node ≢ new.to → next_at s'.table node ≡ next_at s.table node
      next_off node q = ap (λ table. next_at table node) t.table ∙ get_or-set_other s.table.nexts new.to node (Some (record { 0 = new.hop })) None q

      rank_to : rank_at s'.table new.to ≡ Some (rank_of new)
      rank_to = ap (λ o. rank_in o (next_at s'.table new.to)) dist_to ∙ ap (λ o. rank_in (Some new.cost) o) next_to

      rank_off : (node : ℕ) → node ≢ new.to → rank_at s'.table node ≡ rank_at s.table node
      rank_off node q = ap (λ o. rank_in o (next_at s'.table node)) (dist_off node q) ∙ ap (λ o. rank_in (dist_at s.table node) o) (next_off node q)

      mark_same : (node : ℕ) → is_settled s' node ≡ is_settled s node
      mark_same node = ap (λ marks. get_or marks node false) t.settled

      count_same : unsettled s' ≡ unsettled s
      count_same = ap (count_by not) t.settled

      -- what is known of a node gets no worse
      lower : (node most : ℕ) → AtMost (rank_at s.table node) most → AtMost (rank_at s'.table node) most
      lower node most a =
          elim (eqb_tells node new.to) [
            | inl e ↦ at_most_from _ _ _ (ap (rank_at s'.table) e.1 ∙ rank_to) (better_than _ _ _ better (subst (λ n. AtMost (rank_at s.table n) most) e.1 a))
            | inr e ↦ subst (λ o. AtMost o most) (sym (rank_off node e.1)) a
          ]

      root_other : root ≢ new.to
      root_other = settled_other root here h.root_settled

      queued_still : (w : Way) → IsQueued v root (rank_of way) s w → IsQueued v root (rank_of way) s' w
      queued_still w q =
          record {
            there = q.there;
            fits = q.fits;
            found = q.found;
            not_better = q.not_better;
            not_worse = lower w.to (rank_of w) q.not_worse;
            bounded =
                omega (arith, q.bounded, count_same);
          }

      queued_new : IsQueued v root (rank_of way) s' new
      queued_new =
          record {
            there = to_below;
            fits = over_fits s way l f g;
            found = over_walked s way l f g;
            not_better = over_higher s way l f;
            not_worse = at_most_from _ _ _ rank_to (omega arith);
            bounded = omega (arith, f.bounded, count_same, (link_is v net way.to l g).bounded);
          }

      found_as : (node : ℕ) (o o' : Option ℕ) (n n' : Option NodeNo) → o ≡ o' → n ≡ n' → IsFound v root node o' n' → IsFound v root node o n
      found_as node o o' n n' e f' a = subst (λ x. IsFound v root node x n) (sym e) (subst (λ x. IsFound v root node o' x) (sym f') a)

      found_to : IsFound v root new.to (dist_at s'.table new.to) (next_at s'.table new.to)
      found_to = found_as new.to _ _ _ _ dist_to next_to (over_walked s way l f g)

      found_all : (node : ℕ) → node < v.nodes → IsFound v root node (dist_at s'.table node) (next_at s'.table node)
      found_all node p =
          elim (eqb_tells node new.to) [
            | inl e ↦ subst (λ n. IsFound v root n (dist_at s'.table n) (next_at s'.table n)) (sym e.1) found_to
            | inr e ↦ found_as node _ _ _ _ (dist_off node e.1) (next_off node e.1) (h.found node p)
          ]

      known_still : rank_at s'.table way.to ≡ Some (rank_of way)
      known_still = rank_off way.to (settled_other way.to f.there f.settled) ∙ f.known

      taken : IsSearch v root (OpenFrom way.to links (i + 1)) (rank_of way) s'
      taken =
          record {
            one_each = record {
              dists = ap (λ (table : PathTable). length table.dists) t.table ∙ length-set s.table.dists new.to _ ∙ h.one_each.dists;
              nexts = ap (λ (table : PathTable). length table.nexts) t.table ∙ length-set s.table.nexts new.to _ ∙ h.one_each.nexts;
            };
            marks = ap (λ (m : List Bool). length m) t.settled ∙ h.marks;
            root_cost = dist_off root root_other ∙ h.root_cost;
            root_hop = next_off root root_other ∙ h.root_hop;
            root_settled = mark_same root ∙ h.root_settled;
            found = found_all;
            done = λ node p e. lower node (rank_of way) (h.done node p (sym (mark_same node) ∙ e));
            relaxed = λ node m known p e x r.
                let e' : is_settled s node ≡ true = sym (mark_same node) ∙ e in
                elim (h.relaxed node m known p e' x (sym (rank_off node (settled_other node p e')) ∙ r)) [
                  | inl o ↦ elim (still way.to links i node m o) [
                    | inl o ↦ inl o
                    | inr o ↦ inr
                        (relaxed_here s'.table way.to l (rank_of way) (at_most_from _ _ _ rank_to (omega (arith, over_rank s way l f))) node m known o.0
                        (it_is m o.1 o.2) r known_still)
                  ]
                  | inr a ↦ inr (lower _ _ a)
                ];
            waiting = λ node known p e r.
                elim (eqb_tells node new.to) [
                  | inl q ↦ (
                    new,
                    Contains-permutation _ _ _ t.queue (contains_head (queued new) s.queue),
                    sym q.1,
                    same_known (rank_at s'.table new.to) rank_to
                        (ap (rank_at s'.table) (sym q.1) ∙ r),
                  )
                  | inr q ↦ (let w = h.waiting node known p (sym (mark_same node) ∙ e) (sym (rank_off node q.1) ∙ r) in
                      (w.0, Contains-permutation _ _ _ t.queue (contains_tail (queued new) _ _ w.1), w.2, w.3))
                ];
            ways = All-permutation (λ w. IsQueued v root (rank_of way) s' w.0) _ _ t.queue
                (All-cons (λ w. IsQueued v root (rank_of way) s' w.0) _ _ queued_new
                (All-weaker (λ w. IsQueued v root (rank_of way) s w.0) (λ w. IsQueued v root (rank_of way) s' w.0) (λ w. queued_still w.0) _ h.ways));
            ordered = t.ordered h.ordered;
          }

      followed_still : IsFollowed v root s' way
      followed_still =
          record {
            there = f.there;
            fits = f.fits;
            settled = mark_same way.to ∙ f.settled;
            known = known_still;
            found = f.found;
            bounded = omega (arith, f.bounded, count_same);
          }

    offered_as : (b : Bool) (s' : State) → beats (rank_of new) (rank_at s.table new.to) ≡ b → MatchBool b (Takes s s' new) (s' ≡ s) →
        IsSearch v root (OpenFrom way.to links (i + 1)) (rank_of way) s' × IsFollowed v root s' way
    offered_as true s' e t = (taken s' e t, followed_still s' e t)
    offered_as false s' e t = subst (λ z. IsSearch v root (OpenFrom way.to links (i + 1)) (rank_of way) z × IsFollowed v root z way) (sym t) (kept e, f)

    count_as : (b : Bool) (s' : State) → MatchBool b (Takes s s' new) (s' ≡ s) → unsettled s' ≡ unsettled s
    count_as true s' t = ap (count_by not) t.settled
    count_as false s' t = ap unsettled t

    -- the link at the next place is followed
    pub offered : (s' : State) → Offers s s' new → IsSearch v root (OpenFrom way.to links (i + 1)) (rank_of way) s' × IsFollowed v root s' way
        × (unsettled s' ≡ unsettled s)
    offered s' o = (let a = offered_as _ s' refl o in (a.0, a.1, count_as _ s' o))

  -- the links at the node are those of the list
  pub opened : (at limit : ℕ) (links : List LinkNo) (s : State) → AreLinksAt v at links → IsSearch v root (AllOpen at) limit s →
      IsSearch v root (OpenFrom at links 0) limit s
  opened at limit links s a h =
      reopened (AllOpen at) (OpenFrom at links 0) limit s h (λ node m known x r o.
      let k = a.all m (subst (λ n. goes v n m ≡ true) o x) in inl (o, k.0, omega arith, k.1, ap (λ (n : LinkNo). n.0) k.2))

  past_the_end : (k i n : ℕ) → i ≤ k → k < n → n ≤ i → ⊥
  past_the_end k i n p q r = omega (arith, p, q, r)

  pub closed : (at limit i : ℕ) (links : List LinkNo) (s : State) → length links ≤ i → IsSearch v root (OpenFrom at links i) limit s →
      IsSearch v root NoneOpen limit s
  closed at limit i links s p h =
      reopened (OpenFrom at links i) NoneOpen limit s h (λ node m known x r o. absurd (past_the_end o.1 i (length links) o.2 o.3 p))

  -- 8. The start
  module _ (s : State) (table : s.table ≡ with_entries (nothing_known v.nodes) root (Some 0) None)
      (marks : s.settled ≡ set (replicate v.nodes false) root true) (empty : s.queue ≡ []) (ordered : IsHeap worse_cmp s.queue) where
    blank : (node : ℕ) → node ≢ root → node < v.nodes → is_settled s node ≡ false
    blank node q p =
        ap (λ m. get_or m node false) marks ∙ get_or-set_other (replicate v.nodes false) root node true false q
        ∙ get_or-replicate v.nodes node false false p

    root_marked : is_settled s root ≡ true
    root_marked =
        ap (λ m. get_or m root false) marks
        ∙ get_or-set_same (replicate v.nodes false) root true false (omega (arith, here, length-replicate v.nodes false))

    dist_root : dist_at s.table root ≡ Some 0
    dist_root =
        ap (λ t. dist_at t root) table
        ∙ get_or-set_same (replicate v.nodes None) root (Some 0) None (omega (arith, here, length-replicate v.nodes (no_number)))
      where
        no_number : Option ℕ
        no_number = None

    dist_none : (node : ℕ) → node ≢ root → node < v.nodes → dist_at s.table node ≡ None
    dist_none node q p =
        ap (λ t. dist_at t node) table ∙ get_or-set_other (replicate v.nodes None) root node (Some 0) None q ∙ get_or-replicate v.nodes node None None p

    next_none : (node : ℕ) → node < v.nodes → next_at s.table node ≡ None
    next_none node p =
        ap (λ t. next_at t node) table
        ∙ elim (eqb_tells node root) [
          | inl e ↦ ap (λ n. get_or (set (replicate v.nodes no_hop) root no_hop) n no_hop) e.1
              ∙ get_or-set_same (replicate v.nodes no_hop) root no_hop no_hop (omega (arith, here, length-replicate v.nodes no_hop))
          | inr e ↦ get_or-set_other (replicate v.nodes no_hop) root node no_hop no_hop e.1 ∙ get_or-replicate v.nodes node no_hop no_hop p
        ]
      where
        no_hop : Option NodeNo
        no_hop = None

    marked_root : (node : ℕ) → node < v.nodes → is_settled s node ≡ true → node ≡ root
    marked_root node p e = elim (eqb_tells node root) [ inl q ↦ q.1 | inr q ↦ absurd (apart (sym e ∙ blank node q.1 p)) ]

    rank_start : rank_at s.table root ≡ Some 0
    rank_start = ap (λ o. rank_in o (next_at s.table root)) dist_root ∙ ap (λ o. rank_in (Some 0) o) (next_none root here)

    found_at_start : (node : ℕ) → node < v.nodes → IsFound v root node (dist_at s.table node) (next_at s.table node)
    found_at_start node p =
        elim (eqb_tells node root) [
          | inl e ↦ found_is node (Some 0) None (ap (dist_at s.table) e.1 ∙ dist_root) (next_none node p) (e.1, refl)
          | inr e ↦ found_is node None None (dist_none node e.1 p) (next_none node p) refl
        ]
      where
        found_is : (node : ℕ) (o : Option ℕ) (n : Option NodeNo) → dist_at s.table node ≡ o → next_at s.table node ≡ n → IsFound v root node o n →
            IsFound v root node (dist_at s.table node) (next_at s.table node)
        found_is node o n e f a = subst (λ x. IsFound v root node x (next_at s.table node)) (sym e) (subst (λ x. IsFound v root node o x) (sym f) a)

    none_known : (known : ℕ) → ◌≡◌ {A = Option ℕ} None (Some known) → ⊥
    none_known known e = cc

    pub started : IsSearch v root (AllOpen root) 0 s
    started =
        record {
          one_each = record {
            dists = ap (λ (t : PathTable). length t.dists) table ∙ length-set _ root _ ∙ length-replicate v.nodes _;
            nexts = ap (λ (t : PathTable). length t.nexts) table ∙ length-set _ root _ ∙ length-replicate v.nodes _;
          };
          marks = ap (λ (m : List Bool). length m) marks ∙ length-set _ root _ ∙ length-replicate v.nodes false;
          root_cost = dist_root;
          root_hop = next_none root here;
          root_settled = root_marked;
          found = found_at_start;
          done = λ node p e. at_most_from _ 0 0 (ap (rank_at s.table) (marked_root node p e) ∙ rank_start) (omega arith);
          relaxed = λ node m known p e x r. inl (marked_root node p e);
          waiting = λ node known p e r.
              absurd (elim (eqb_tells node root) [
                | inl q ↦ apart (sym (ap (is_settled s) q.1 ∙ root_marked) ∙ e)
                | inr q ↦ none_known known (sym (ap (λ o. rank_in o (next_at s.table node)) (dist_none node q.1 p)) ∙ r)
              ]);
          ways = subst (λ q. All (λ w. IsQueued v root 0 s w.0) q) (sym empty) (All-nil (λ w. IsQueued v root 0 s w.0));
          ordered = ordered;
        }

    few_left : unsettled s + 1 ≤ v.nodes
    few_left =
        let e : count_by not (set (replicate v.nodes false) root true) + 1 ≡ count_by not (replicate v.nodes false) =
        one_less (replicate v.nodes false) root (omega (arith, here, length-replicate v.nodes false))
        (get_or-replicate v.nodes root false false here) in
        omega (arith, e, ap (count_by not) marks, count_by-le-length not (replicate v.nodes false), length-replicate v.nodes false)

    pub start_followed : IsFollowed v root s (record { cost = 0; hop = 0; to = root })
    start_followed =
        record {
          there = here;
          fits = omega arith;
          settled = root_marked;
          known = rank_start;
          found = inl (refl, refl, refl);
          bounded =
              omega (arith, few_left);
        }

-- 9. A way comes out of the queue
module _ (v : Learned) (root : ℕ) where
  module _ (s s' : State) (way : Way) (limit : ℕ) (h : IsSearch v root NoneOpen limit s) (moved : IsPermutation s.queue (queued way ∷ s'.queue))
      (greatest : PopsGreatest worse_cmp s.queue (queued way) s'.queue) (table : s'.table ≡ s.table) where
    ways_moved : All (λ w. IsQueued v root limit s w.0) (queued way ∷ s'.queue)
    ways_moved = All-permutation (λ w. IsQueued v root limit s w.0) _ _ moved h.ways

    pub popped : IsQueued v root limit s way
    popped = All-head (λ w. IsQueued v root limit s w.0) _ _ ways_moved

    -- another node's way is still there
    waits : (w : Way) → Contains s.queue (queued w) → w.to ≢ way.to → Contains s'.queue (queued w)
    waits w c q =
        elim (contains_cases (queued way) (queued w) s'.queue (Contains-permutation _ _ _ moved c)) [
          | inl e ↦ absurd (q (ap (λ (r : Reverse Way). r.0.to) (sym e)))
          | inr i ↦ i
        ]

    rank_same : (node : ℕ) → rank_at s'.table node ≡ rank_at s.table node
    rank_same node = ap (λ t. rank_at t node) table

    dist_same : (node : ℕ) → dist_at s'.table node ≡ dist_at s.table node
    dist_same node = ap (λ t. dist_at t node) table

    next_same : (node : ℕ) → next_at s'.table node ≡ next_at s.table node
    next_same node = ap (λ t. next_at t node) table

    table_same : IsTable v.nodes s'.table
    table_same = subst (IsTable v.nodes) (sym table) h.one_each

    found_same : (node : ℕ) → node < v.nodes → IsFound v root node (dist_at s'.table node) (next_at s'.table node)
    found_same node p = subst (λ t. IsFound v root node (dist_at t node) (next_at t node)) (sym table) (h.found node p)

    -- its node is settled already
    pub stale : s'.settled ≡ s.settled → is_settled s way.to ≡ true → IsSearch v root NoneOpen limit s'
    stale same e =
        record {
          one_each = table_same;
          marks = ap (λ (m : List Bool). length m) same ∙ h.marks;
          root_cost = dist_same root ∙ h.root_cost;
          root_hop = next_same root ∙ h.root_hop;
          root_settled = mark_same root ∙ h.root_settled;
          found = found_same;
          done = λ node p e. subst (λ o. AtMost o limit) (sym (rank_same node)) (h.done node p (sym (mark_same node) ∙ e));
          relaxed =
              λ node m known p e x r. subst (λ t. ⊥ ⊎ IsRelaxed v root t node known m) (sym table)
              (h.relaxed node m known p (sym (mark_same node) ∙ e) x (sym (rank_same node) ∙ r));
          waiting = λ node known p f r. (let w = h.waiting node known p (sym (mark_same node) ∙ f) (sym (rank_same node) ∙ r) in
              (w.0, waits w.0 w.1 (λ q. apart (sym e ∙ ap (is_settled s) (sym q ∙ w.2) ∙ sym (mark_same node) ∙ f)), w.2, w.3));
          ways = All-weaker (λ w. IsQueued v root limit s w.0) (λ w. IsQueued v root limit s' w.0) (λ w. queued_same w.0) _
              (All-tail (λ w. IsQueued v root limit s w.0) _ _ ways_moved);
          ordered = (greatest h.ordered).0;
        }
      where
        mark_same : (node : ℕ) → is_settled s' node ≡ is_settled s node
        mark_same node = ap (λ m. get_or m node false) same

        queued_same : (w : Way) → IsQueued v root limit s w → IsQueued v root limit s' w
        queued_same w q =
            record {
              there = q.there;
              fits = q.fits;
              found = q.found;
              not_better = q.not_better;
              not_worse =
                  subst (λ o. AtMost o (rank_of w)) (sym (rank_same w.to)) q.not_worse;
              bounded = omega (arith, q.bounded, ap (count_by not) same);
            }

    -- its node isn't settled yet
    module _ (marks : s'.settled ≡ set s.settled way.to true) (free : is_settled s way.to ≡ false) where
      in_marks : way.to < length s.settled
      in_marks = omega (arith, popped.there, h.marks)

      mark_here : is_settled s' way.to ≡ true
      mark_here = ap (λ m. get_or m way.to false) marks ∙ get_or-set_same s.settled way.to true false in_marks

      mark_off : (node : ℕ) → node ≢ way.to → is_settled s' node ≡ is_settled s node
      mark_off node q = ap (λ m. get_or m node false) marks ∙ get_or-set_other s.settled way.to node true false q

      pub one_settled : unsettled s' + 1 ≡ unsettled s
      one_settled = omega (arith, ap (count_by not) marks, one_less s.settled way.to in_marks free)

      -- no way in the queue is better
      best : All (λ w. rank_of way ≤ rank_of w.0) s.queue
      best = All-weaker (λ w. is_lt (worse_cmp (queued way) w) ≡ false) (λ w. rank_of way ≤ rank_of w.0) (λ w e. rank_by w.0 way e popped.fits) _
          (All-from_recursion (λ w. is_lt (worse_cmp (queued way) w) ≡ false) _ (greatest h.ordered).1)

      best_left : All (λ w. rank_of way ≤ rank_of w.0) s'.queue
      best_left = All-tail (λ w. rank_of way ≤ rank_of w.0) _ _ (All-permutation (λ w. rank_of way ≤ rank_of w.0) _ _ moved best)

      -- what is known of the node is this way's rank
      known_here : rank_at s.table way.to ≡ Some (rank_of way)
      known_here =
          let k : (k : ℕ) × (rank_at s.table way.to ≡ Some k) × (k ≤ rank_of way) = known_of _ _ popped.not_worse in
          let w = h.waiting way.to k.0 popped.there free k.1 in
          let q : rank_of way ≤ rank_of w.0 = All-contains (λ w. rank_of way ≤ rank_of w.0) _ _ best w.1 in
          let e : k.0 ≡ rank_of way = omega (arith, k.2, q, w.3) in
          k.1 ∙ ap (λ (n : ℕ). let o : Option ℕ = Some n in o) e

      root_off : root ≢ way.to
      root_off q = apart (sym h.root_settled ∙ ap (is_settled s) q ∙ free)

      queued_on : (w : Way) → IsQueued v root limit s w → rank_of way ≤ rank_of w → IsQueued v root (rank_of way) s' w
      queued_on w q b =
          record {
            there = q.there;
            fits = q.fits;
            found = q.found;
            not_better = b;
            not_worse =
                subst (λ o. AtMost o (rank_of w)) (sym (rank_same w.to)) q.not_worse;
            bounded = omega (arith, q.bounded, one_settled);
          }

      pub settles : IsSearch v root (AllOpen way.to) (rank_of way) s'
      settles =
          record {
            one_each = table_same;
            marks = ap (λ (m : List Bool). length m) marks ∙ length-set s.settled way.to true ∙ h.marks;
            root_cost = dist_same root ∙ h.root_cost;
            root_hop = next_same root ∙ h.root_hop;
            root_settled = mark_off root root_off ∙ h.root_settled;
            found = found_same;
            done = λ node p e.
                elim (eqb_tells node way.to) [
                  | inl q ↦ at_most_from _ _ _ (rank_same node ∙ ap (rank_at s.table) q.1 ∙ known_here) (omega arith)
                  | inr q ↦ subst (λ o. AtMost o (rank_of way)) (sym (rank_same node))
                      (at_most_more _ _ _ (h.done node p (sym (mark_off node q.1) ∙ e)) popped.not_better)
                ];
            relaxed = λ node m known p e x r.
                elim (eqb_tells node way.to) [
                  | inl q ↦ inl q.1
                  | inr q ↦ inr
                      (subst (λ t. IsRelaxed v root t node known m) (sym table)
                      (elim (h.relaxed node m known p (sym (mark_off node q.1) ∙ e) x (sym (rank_same node) ∙ r)) [ inl o ↦ absurd o | inr a ↦ a ]))
                ];
            waiting = λ node known p f r.
                elim (eqb_tells node way.to) [
                  | inl q ↦ absurd (apart (sym mark_here ∙ ap (is_settled s') (sym q.1) ∙ f))
                  | inr q ↦ (let w = h.waiting node known p (sym (mark_off node q.1) ∙ f) (sym (rank_same node) ∙ r) in
                      (w.0, waits w.0 w.1 (λ e. q.1 (sym w.2 ∙ e)), w.2, w.3))
                ];
            ways = All-both (λ w. IsQueued v root limit s w.0) (λ w. rank_of way ≤ rank_of w.0) (λ w. queued_on w.0) _
                (All-tail (λ w. IsQueued v root limit s w.0) _ _ ways_moved) best_left;
            ordered = (greatest h.ordered).0;
          }

      pub settles_followed : IsFollowed v root s' way
      settles_followed =
          record {
            there = popped.there;
            fits = popped.fits;
            settled = mark_here;
            known = rank_same way.to ∙ known_here;
            found = inr ((λ q. root_off (sym q)), popped.found);
            bounded = omega (arith, popped.bounded, one_settled);
          }

  -- 10. The queue is empty
  pub ended : (s : State) (limit : ℕ) → IsSearch v root NoneOpen limit s → s.queue ≡ [] → IsDone v root s.table
  ended s limit h e =
      record {
        one_each = h.one_each;
        root_cost = h.root_cost;
        root_hop = h.root_hop;
        found = h.found;
        relaxed = λ node l known p g r.
            elim (h.relaxed node l known p (settled_all node known p r) g r) [ inl o ↦ absurd o | inr a ↦ a ];
      }
    where
      in_none : (w : Reverse Way) (q : List (Reverse Way)) → q ≡ [] → Contains q w → ⊥
      in_none w q e c = none_below c.0 (omega (arith, c.1, ap (λ (x : List (Reverse Way)). length x) e))

      settled_all : (node known : ℕ) → node < v.nodes → rank_at s.table node ≡ Some known → is_settled s node ≡ true
      settled_all node known p r =
          elim (two_ways (is_settled s node)) [
            | inl m ↦ m
            | inr m ↦ (let w = h.waiting node known p m r in absurd (in_none _ s.queue e w.1))
          ]
