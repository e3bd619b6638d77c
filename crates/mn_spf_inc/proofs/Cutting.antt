-- Nodes are doubted and cut off.
use Rattle.std.proofs.Common.{ℕ, ◌≡◌, ◌≢◌, ◌+◌, ◌<◌, ◌≤◌, Bool, true, false, cond, List, [], ◌∷◌, ◌++◌, length, refl, arith, sym, ◌∙◌, ap, ◌⊎◌, inl, inr}
use Rattle.std.proofs.Common.{subst, get_or-set_other, get_or-set_same}
use Rattle.std.specs.Prelude.{Option, Some, None, nat_lt, All, Contains, MatchBool, MatchOption, IsPermutation}
use Rattle.std.specs.declared.cmp.Reverse.{Reverse}
use Rattle.std.proofs.lemmas.Bool.{ltb-true, ltb-false}
use Rattle.std.proofs.lemmas.Bool.Decides.{eqb_tells}
use Rattle.std.proofs.lemmas.List.{length-set}
use Rattle.std.proofs.lemmas.List.Elements.{All-cons, All-tail, All-head, All-push, All-contains, All-weaker, Contains-append_left, Contains-push}
use Rattle.std.proofs.lemmas.List.Sorted.{All-permutation, Contains-permutation}
use Rattle.std.proofs.lemmas.List.Sums.{sum_by-set}
use Rattle.mn_base.proofs.Bools.{none_below}
use Rattle.mn_base.specs.declared.numbers.NodeNo.{NodeNo}
use Rattle.mn_linkdb.specs.Network.{IsNetwork}
use Rattle.mn_linkdb.specs.Learned.{Learned}
use Rattle.mn_linkdb.specs.PathTable.{PathTable, IsTable, dist_at, next_at}
use Rattle.mn_spf.specs.Ways.{goes, beyond, rank, rank_in, rank_at, AtMost, rank_over}
use Rattle.mn_spf_inc.specs.declared.way.Way.{Way}
use Rattle.mn_spf_inc.specs.Ways.{rank_of, queued, way_at}
use Rattle.mn_spf_inc.specs.Mending.{State, numbered, IsFormed, IsHeld, IsRelaxed, is_there, reached, IsDoubted, IsCutting, IsGrowing, IntoCut, NoneLate}
use Rattle.mn_spf_inc.specs.Mending.{OneLate, IsKnown, Queues, Doubts, Forgets}
use Rattle.mn_spf_inc.proofs.Entries.{some_is, none_some, known_way, no_way}
use Rattle.mn_spf_inc.proofs.Held.{IsFrom, comes_from}
use Rattle.mn_spf_inc.proofs.Costs.{bounded}
use Rattle.mn_spf_inc.proofs.Growing.{contains_head, contains_tail, contains_cases, held_on}

module _ (v : Learned) (root : ℕ) where
  -- 1. Which nodes are late
  pub eased : (Late Late' : ℕ → ℕ → Type 0) (s : State) → IsCutting v root Late s →
      ((n known : ℕ) → n < v.nodes → n ≢ root → rank_at s.table n ≡ Some known → Late n known →
      Late' n known ⊎ (IsDoubted s n ⊎ IsHeld v root s.table n known)) → IsCutting v root Late' s
  eased Late Late' s h f = assumption (held, h)
    where
      held : (n known : ℕ) → n < v.nodes → n ≢ root → rank_at s.table n ≡ Some known → Late' n known ⊎ (IsDoubted s n ⊎ IsHeld v root s.table n known)
      held n known p q r = elim (h.held n known p q r) [ inl o ↦ f n known p q r o | inr o ↦ inr o ]

  -- 2. A node is doubted
  module _ (Late Late' : ℕ → ℕ → Type 0) (s : State) (over : Way) (h : IsCutting v root Late s) (there : over.to < v.nodes) (positive : 0 < rank_of over)
      (late : (n known : ℕ) → Late n known → Late' n known ⊎ ((n ≡ over.to) × (rank_of over ≤ known))) where
    rank_root : rank_at s.table root ≡ Some 0
    rank_root = ap (λ o. rank_in o (next_at s.table root)) h.root_cost ∙ ap (λ o. rank_in (Some 0) o) h.root_hop

    -- nothing is known of it
    nowhere : way_at s.table over.to ≡ None → IsCutting v root Late' s
    nowhere e =
        eased Late Late' s h (λ n known p q r o. elim (late n known o) [
          | inl o ↦ inl o
          | inr a ↦ absurd (none_some known (sym (no_way s.table over.to e) ∙ ap (rank_at s.table) (sym a.0) ∙ r))
        ])

    module _ (w : Way) (e : way_at s.table over.to ≡ Some w) where
      is_known : IsKnown v root s.table w × (w.to ≡ over.to)
      is_known = known_way v root s.table over.to w there (h.formed over.to there) h.root_cost e

      known_here : (n known : ℕ) → n ≡ over.to → rank_at s.table n ≡ Some known → known ≡ rank_of w
      known_here n known p r = some_is (sym r ∙ ap (rank_at s.table) (p ∙ sym is_known.1) ∙ is_known.0.rank)

      -- what is known of it is better
      better : nat_lt (rank_of w) (rank_of over) ≡ true → IsCutting v root Late' s
      better b =
          eased Late Late' s h (λ n known p q r o. elim (late n known o) [
            | inl o ↦ inl o
            | inr a ↦ absurd (above (rank_of w) (rank_of over) known b a.1 (known_here n known a.0 r))
          ])
        where
          above : (a b c : ℕ) → nat_lt a b ≡ true → b ≤ c → c ≡ a → ⊥
          above a b c e p q = omega (arith, ltb-true a b e, p, q)

      not_root : nat_lt (rank_of w) (rank_of over) ≡ false → w.to ≢ root
      not_root b q =
          let z : rank_of w ≡ 0 = some_is (sym is_known.0.rank ∙ ap (rank_at s.table) q ∙ rank_root) in
          least (rank_of w) (rank_of over) (ltb-false _ _ b) z positive
        where
          least : (a b : ℕ) → b ≤ a → a ≡ 0 → 0 < b → ⊥
          least a b p z q = omega (arith, p, z, q)

      doubted_as : (n : ℕ) (s' : State) → Queues s s' w → IsDoubted s n → IsDoubted s' n
      doubted_as n s' t d = (d.0, Contains-permutation _ _ _ t.queue (contains_tail (queued w) _ _ d.1), d.2)

      table_as : (t t' : PathTable) → t' ≡ t → (P : PathTable → Type 0) → P t → P t'
      table_as t t' e P p = subst P (sym e) p

      stands : (s' : State) → s'.table ≡ s.table → s'.cut ≡ s.cut → (queue : All (λ way. (way.0.to < v.nodes) × (way.0.to ≢ root)) s'.queue) →
          ((n known : ℕ) → n < v.nodes → n ≢ root → rank_at s.table n ≡ Some known → Late' n known ⊎ (IsDoubted s' n ⊎ IsHeld v root s.table n known)) →
          IsCutting v root Late' s'
      stands s' e c ways f =
          record {
            one_each = subst (IsTable v.nodes) (sym e) h.one_each;
            root_cost = ap (λ t. dist_at t root) e ∙ h.root_cost;
            root_hop = ap (λ t. next_at t root) e ∙ h.root_hop;
            formed = λ n p. subst (λ t. IsFormed root n (dist_at t n) (next_at t n)) (sym e) (h.formed n p);
            held = λ n known p q r. subst (λ t. Late' n known ⊎ (IsDoubted s' n ⊎ IsHeld v root t n known)) (sym e)
                (f n known p q (ap (λ t. rank_at t n) (sym e) ∙ r));
            relaxed =
                λ n m known p g r. subst (λ t. IntoCut v s'.cut n m ⊎ IsRelaxed v root t n known m) (sym e)
                (subst (λ cs. IntoCut v cs n m ⊎ IsRelaxed v root s.table n known m) (sym c) (h.relaxed n m known p g (ap (λ t. rank_at t n) (sym e) ∙ r)));
            ways = ways;
            small = λ n cost p r. h.small n cost p (ap (λ t. dist_at t n) (sym e) ∙ r);
            gone = subst (λ t. All (λ node. (node.0 < v.nodes) × (dist_at t node.0 ≡ None)) s'.cut) (sym e)
                (subst (All (λ node. (node.0 < v.nodes) × (dist_at s.table node.0 ≡ None))) (sym c) h.gone);
          }

      -- it is queued
      queues : (s' : State) → nat_lt (rank_of w) (rank_of over) ≡ false → Queues s s' w → IsCutting v root Late' s'
      queues s' b t =
          stands s' t.table t.cut
          (All-permutation (λ way. (way.0.to < v.nodes) × (way.0.to ≢ root)) _ _ t.queue
          (All-cons (λ way. (way.0.to < v.nodes) × (way.0.to ≢ root)) _ _ (is_known.0.there, not_root b) h.ways))
          (λ n known p q r. elim (h.held n known p q r) [
            | inl o ↦ elim (late n known o) [
              | inl o ↦ inl o
              | inr a ↦ inr (inl (w, Contains-permutation _ _ _ t.queue (contains_head (queued w) s.queue), is_known.1 ∙ sym a.0))
            ]
            | inr o ↦ elim o [
              | inl d ↦ inr (inl (doubted_as n s' t d))
              | inr a ↦ inr (inr a)
            ]
          ])

      doubted_by : (b : Bool) (s' : State) → nat_lt (rank_of w) (rank_of over) ≡ b → MatchBool b (s' ≡ s) (Queues s s' w) → IsCutting v root Late' s'
      doubted_by true s' b t = subst (IsCutting v root Late') (sym t) (better b)
      doubted_by false s' b t = queues s' b t

    doubted_in : (o : Option Way) (s' : State) → way_at s.table over.to ≡ o →
        MatchOption o (s' ≡ s) (λ known. MatchBool (nat_lt (rank_of known) (rank_of over)) (s' ≡ s) (Queues s s' known)) → IsCutting v root Late' s'
    doubted_in None s' e t = subst (IsCutting v root Late') (sym t) (nowhere e)
    doubted_in (Some w) s' e t = doubted_by w e _ s' refl t

    pub doubted : (s' : State) → Doubts s s' over → IsCutting v root Late' s'
    doubted s' t = doubted_in _ s' refl t

  -- 3. A node comes out of the queue
  pub popped : (s s' : State) (way : Way) → IsCutting v root NoneLate s → IsPermutation s.queue (queued way ∷ s'.queue) → s'.table ≡ s.table →
      s'.cut ≡ s.cut → IsCutting v root (OneLate way.to) s' × (way.to < v.nodes) × (way.to ≢ root)
  popped s s' way h moved e c =
      let ways = All-permutation (λ w. (w.0.to < v.nodes) × (w.0.to ≢ root)) _ _ moved h.ways in
      let it : (way.to < v.nodes) × (way.to ≢ root) = All-head (λ w. (w.0.to < v.nodes) × (w.0.to ≢ root)) _ _ ways in (
        record {
          one_each = subst (IsTable v.nodes) (sym e) h.one_each;
          root_cost = ap (λ t. dist_at t root) e ∙ h.root_cost;
          root_hop = ap (λ t. next_at t root) e ∙ h.root_hop;
          formed = λ n p. subst (λ t. IsFormed root n (dist_at t n) (next_at t n)) (sym e) (h.formed n p);
          held = λ n known p q r. subst (λ t. OneLate way.to n known ⊎ (IsDoubted s' n ⊎ IsHeld v root t n known)) (sym e)
              (elim (h.held n known p q (ap (λ t. rank_at t n) (sym e) ∙ r)) [
                | inl o ↦ absurd o
                | inr o ↦ elim o [
                  | inl d ↦ elim (contains_cases (queued way) (queued d.0) s'.queue (Contains-permutation _ _ _ moved d.1)) [
                    | inl a ↦ inl (sym d.2 ∙ ap (λ (w : Reverse Way). w.0.to) (sym a))
                    | inr a ↦ inr (inl (d.0, a, d.2))
                  ]
                  | inr a ↦ inr (inr a)
                ]
              ]);
          relaxed =
              λ n m known p g r. subst (λ t. IntoCut v s'.cut n m ⊎ IsRelaxed v root t n known m) (sym e)
              (subst (λ cs. IntoCut v cs n m ⊎ IsRelaxed v root s.table n known m) (sym c) (h.relaxed n m known p g (ap (λ t. rank_at t n) (sym e) ∙ r)));
          ways = All-tail (λ w. (w.0.to < v.nodes) × (w.0.to ≢ root)) _ _ ways;
          small = λ n cost p r. h.small n cost p (ap (λ t. dist_at t n) (sym e) ∙ r);
          gone = subst (λ t. All (λ node. (node.0 < v.nodes) × (dist_at t node.0 ≡ None)) s'.cut) (sym e)
              (subst (All (λ node. (node.0 < v.nodes) × (dist_at s.table node.0 ≡ None))) (sym c) h.gone);
        },
        it.0,
        it.1,
      )

  -- 4. A node is cut off
  module _ (s s' : State) (w : Way) (h : IsCutting v root (OneLate w.to) s) (k : IsKnown v root s.table w) (q : w.to ≢ root) (f : Forgets s s' w.to) where
    in_dists : w.to < length s.table.dists
    in_dists = omega (arith, h.one_each.dists, k.there)

    dist_gone : dist_at s'.table w.to ≡ None
    dist_gone = ap (λ t. dist_at t w.to) f.table ∙ get_or-set_same s.table.dists w.to None None in_dists

    next_gone : next_at s'.table w.to ≡ None
    next_gone = ap (λ t. next_at t w.to) f.table ∙ get_or-set_same s.table.nexts w.to None None (omega (arith, h.one_each.nexts, k.there))

    rank_gone : rank_at s'.table w.to ≡ None
    rank_gone = ap (λ o. rank_in o (next_at s'.table w.to)) dist_gone

    dist_off : (node : ℕ) → node ≢ w.to → dist_at s'.table node ≡ dist_at s.table node
    dist_off node d = ap (λ t. dist_at t node) f.table ∙ get_or-set_other s.table.dists w.to node None None d

    next_off : (node : ℕ) → node ≢ w.to → next_at s'.table node ≡ next_at s.table node
    next_off node d = ap (λ t. next_at t node) f.table ∙ get_or-set_other s.table.nexts w.to node None None d

    rank_off : (node : ℕ) → node ≢ w.to → rank_at s'.table node ≡ rank_at s.table node
    rank_off node d = ap (λ o. rank_in o (next_at s'.table node)) (dist_off node d) ∙ ap (λ o. rank_in (dist_at s.table node) o) (next_off node d)

    still : (node known : ℕ) → rank_at s'.table node ≡ Some known → node ≢ w.to
    still node known r e = none_some known (sym rank_gone ∙ ap (rank_at s'.table) (sym e) ∙ r)

    -- it was holding this node
    abbrev WasHeld : ℕ → ℕ → Type 0
    WasHeld node known = (l : ℕ) × (goes v w.to l ≡ true) × (beyond v w.to l ≡ node) × (rank_over v root w.to (rank_of w) l ≤ known)

    formed_as : (node : ℕ) (o o' : Option ℕ) (n n' : Option NodeNo) → o ≡ o' → n ≡ n' → IsFormed root node o' n' → IsFormed root node o n
    formed_as node o o' n n' e g a = subst (λ x. IsFormed root node x n) (sym e) (subst (λ x. IsFormed root node o' x) (sym g) a)

    held_or : (node known : ℕ) → IsHeld v root s.table node known → WasHeld node known ⊎ IsHeld v root s'.table node known
    held_or node known a =
        elim (eqb_tells a.from w.to) [
          | inl e ↦
              (let near : a.near ≡ rank_of w = some_is (sym a.is_known ∙ ap (rank_at s.table) e.1 ∙ k.rank) in
              inl (
                a.l,
                subst (λ n. goes v n a.l ≡ true) e.1 a.goes_on,
                subst (λ n. beyond v n a.l ≡ node) e.1 a.leads,
                subst
                    (λ n. rank_over v root n (rank_of w) a.l ≤ known) e.1 (subst (λ n. rank_over v root a.from n a.l ≤ known) near a.no_worse),
              ))
          | inr e ↦ inr (held_on v v.counts root s.table s'.table node known a.near a a.goes_on (rank_off a.from e.1 ∙ a.is_known) a.no_worse)
        ]

    numbered_same : {a b : ℕ} → a ≡ b → numbered a ≡ numbered b
    numbered_same e = ap numbered e

    pub forgotten : IsCutting v root WasHeld s'
    forgotten =
        record {
          one_each = record {
            dists = ap (λ (t : PathTable). length t.dists) f.table ∙ length-set s.table.dists w.to _ ∙ h.one_each.dists;
            nexts = ap (λ (t : PathTable). length t.nexts) f.table ∙ length-set s.table.nexts w.to _ ∙ h.one_each.nexts;
          };
          root_cost = dist_off root (λ e. q (sym e)) ∙ h.root_cost;
          root_hop = next_off root (λ e. q (sym e)) ∙ h.root_hop;
          formed = λ node p.
              elim (eqb_tells node w.to) [
                | inl e ↦ subst (λ n. IsFormed root n (dist_at s'.table n) (next_at s'.table n)) (sym e.1)
                    (formed_as w.to _ None _ None dist_gone next_gone refl)
                | inr e ↦ formed_as node _ _ _ _ (dist_off node e.1) (next_off node e.1) (h.formed node p)
              ];
          held = λ node known p d r.
              (let other : node ≢ w.to = still node known r in
              elim (h.held node known p d (sym (rank_off node other) ∙ r)) [
                | inl o ↦ absurd (other o)
                | inr o ↦ elim o [
                  | inl a ↦ inr (inl (a.0, subst (λ queue. Contains queue (queued a.0)) (sym f.queue) a.1, a.2))
                  | inr a ↦ elim (held_or node known a) [ inl b ↦ inl b | inr b ↦ inr (inr b) ]
                ]
              ]);
          relaxed = λ node l known p g r.
              (let other : node ≢ w.to = still node known r in
              elim (eqb_tells (beyond v node l) w.to) [
                | inl e ↦ inl
                    (subst (λ cs. Contains cs (numbered (beyond v node l))) (sym f.cut)
                    (subst (Contains (s.cut ++ numbered w.to ∷ [])) (numbered_same (sym e.1)) (Contains-push s.cut (numbered w.to))))
                | inr e ↦ elim (h.relaxed node l known p g (sym (rank_off node other) ∙ r)) [
                  | inl o ↦ inl (subst (λ cs. Contains cs (numbered (beyond v node l))) (sym f.cut) (Contains-append_left s.cut (numbered w.to ∷ []) _ o))
                  | inr o ↦ inr (subst (λ x. AtMost x (rank_over v root node known l)) (sym (rank_off (beyond v node l) e.1)) o)
                ]
              ]);
          ways = subst (All (λ way. (way.0.to < v.nodes) × (way.0.to ≢ root))) (sym f.queue) h.ways;
          small = λ node cost p r.
              elim (eqb_tells node w.to) [
                | inl e ↦ absurd (none_some cost (sym dist_gone ∙ ap (dist_at s'.table) (sym e.1) ∙ r))
                | inr e ↦ h.small node cost p (sym (dist_off node e.1) ∙ r)
              ];
          gone = subst (All (λ node. (node.0 < v.nodes) × (dist_at s'.table node.0 ≡ None))) (sym f.cut)
              (All-push (λ (node : NodeNo). (node.0 < v.nodes) × (dist_at s'.table node.0 ≡ None)) s.cut (numbered w.to)
              (All-weaker (λ (node : NodeNo). (node.0 < v.nodes) × (dist_at s.table node.0 ≡ None))
              (λ (node : NodeNo). (node.0 < v.nodes) × (dist_at s'.table node.0 ≡ None)) (λ node a. (a.0, none_still node.0 a.1)) s.cut h.gone)
              (k.there, dist_gone));
        }
      where
        none_still : (node : ℕ) → dist_at s.table node ≡ None → dist_at s'.table node ≡ None
        none_still node e =
            elim (eqb_tells node w.to) [
              | inl d ↦ ap (dist_at s'.table) d.1 ∙ dist_gone
              | inr d ↦ dist_off node d.1 ∙ e
            ]

    there_is : (o : Option ℕ) (c : ℕ) → o ≡ Some c → is_there o ≡ true
    there_is None c e = cc
    there_is (Some d) c e = refl

    pub one_less : reached s'.table + 1 ≡ reached s.table
    one_less =
        let e : ◌≡◌ {A = ℕ} (cond (is_there (dist_at s.table w.to)) 1 0) 1 = ap (λ b. cond b 1 0) (there_is _ w.cost k.cost) in
        omega (arith, sum_by-set (λ o. cond (is_there o) 1 0) s.table.dists w.to None None in_dists, e, ap reached f.table)

  -- 5. No node is doubted any more
  module _ (net : IsNetwork v.nodes v.ends) (here : root < v.nodes) (s : State) (h : IsCutting v root NoneLate s) (empty : s.queue ≡ []) where
    held_now : (node known : ℕ) → node < v.nodes → node ≢ root → rank_at s.table node ≡ Some known → IsHeld v root s.table node known
    held_now node known p q r =
        elim (h.held node known p q r) [
          | inl o ↦ absurd o
          | inr o ↦ elim o [
            | inl d ↦ absurd (none_below d.1.0 (omega (arith, d.1.1, ap (λ (x : List (Reverse Way)). length x) empty)))
            | inr a ↦ a
          ]
        ]

    not_gone : (node cost : ℕ) → dist_at s.table node ≡ Some cost → Contains s.cut (numbered node) → ⊥
    not_gone node cost e c =
        none_some cost (sym (All-contains (λ (n : NodeNo). (n.0 < v.nodes) × (dist_at s.table n.0 ≡ None)) s.cut (numbered node) h.gone c).1 ∙ e)

    formed_fits : (node : ℕ) (d : Option ℕ) (n : Option NodeNo) (hop : NodeNo) → IsFormed root node d n → n ≡ Some hop → (hop.0 < 65536) × (node ≢ root)
    formed_fits node None n hop f e = absurd (none_some hop (sym f ∙ e))
    formed_fits node (Some cost) None hop f e = absurd (none_some hop e)
    formed_fits node (Some cost) (Some hop') hop f e = subst (λ (h : NodeNo). (h.0 < 65536) × (node ≢ root)) (some_is e) f

    from_where : (node cost : ℕ) (hop : NodeNo) → node < v.nodes → dist_at s.table node ≡ Some cost → next_at s.table node ≡ Some hop →
        IsFrom v root s.table node cost hop.0
    from_where node cost hop p e f =
        let t = s.table in
        let fits : (hop.0 < 65536) × (node ≢ root) = formed_fits node _ _ hop (h.formed node p) f in
        let a : IsHeld v root t node (rank cost hop.0) =
        held_now node _ p fits.1 (ap (λ o. rank_in o (next_at t node)) e ∙ ap (λ o. rank_in (Some cost) o) f) in
        comes_from v root net here t h.root_cost h.root_hop h.formed node cost hop e f fits.0 a
        (elim (h.relaxed a.from a.l a.near a.there a.goes_on a.is_known) [
          | inl o ↦ absurd (not_gone node cost e (subst (λ n. Contains s.cut (numbered n)) a.leads o))
          | inr o ↦ o
        ])

    pub grows : IsGrowing v root (IntoCut v s.cut) s
    grows =
        record {
          one_each = h.one_each;
          root_cost = h.root_cost;
          root_hop = h.root_hop;
          formed = h.formed;
          held = held_now;
          relaxed = λ node l known p g r. elim (h.relaxed node l known p g r) [ inl o ↦ inl o | inr o ↦ inr (inr o) ];
          ways = All-weaker (λ way. (way.0.to < v.nodes) × (way.0.to ≢ root)) (λ way. way.0.to < v.nodes) (λ way a. a.0) s.queue h.ways;
          bounded = bounded v root net s.table h.one_each h.root_cost h.formed from_where;
        }
