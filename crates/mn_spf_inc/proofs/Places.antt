-- The links at a node, one after another, and back over a link.
use Rattle.std.proofs.Common.{ℕ, ◌≡◌, ◌+◌, ◌*◌, ◌^◌, ◌<◌, ◌≤◌, ◌==◌, Bool, true, false, List, [], ◌∷◌, ◌++◌, length, get_or, refl, arith, sym, ◌∙◌, ap, ◌⊎◌}
use Rattle.std.proofs.Common.{inl}
use Rattle.std.proofs.Common.{inr, subst}
use Rattle.std.specs.Prelude.{◌||◌, if◌then◌else◌, nat_lt, Option, Some, None, All, Contains, MatchOption, IsPermutation}
use Rattle.std.specs.declared.cmp.Reverse.{Reverse}
use Rattle.std.proofs.lemmas.Bool.{eqb-true, lt-ltb, ltb-true}
use Rattle.std.proofs.lemmas.List.{get_or_default}
use Rattle.std.proofs.lemmas.List.Elements.{All-tail, All-head, Contains-push_cases}
use Rattle.std.proofs.lemmas.List.Sorted.{All-permutation, Contains-permutation, length_permutation}
use Rattle.mn_base.proofs.Bools.{none_below, clash, or_ways, or_left, or_right, same_test}
use Rattle.mn_base.specs.declared.numbers.LinkNo.{LinkNo}
use Rattle.mn_base.specs.declared.numbers.NodeNo.{NodeNo}
use Rattle.mn_wiring.specs.Wiring.{link, is_up, is_end}
use Rattle.mn_linkdb.specs.Network.{IsNetwork}
use Rattle.mn_linkdb.specs.Learned.{Learned, links_up}
use Rattle.mn_linkdb.specs.PathTable.{IsTable, dist_at, next_at}
use Rattle.mn_spf.specs.Ways.{wiring_of, goes, beyond, rank_at, AreLinksAt}
use Rattle.mn_spf.proofs.Steps.{still}
use Rattle.mn_spf.proofs.Walks.{goes_at, all_true, beyond_below}
use Rattle.mn_spf_inc.specs.declared.way.Way.{Way}
use Rattle.mn_spf_inc.specs.Ways.{rank_of, queued, way_over, way_at}
use Rattle.mn_spf_inc.specs.Nets.{all_up}
use Rattle.mn_spf_inc.specs.Mending.{State, numbered, IsFormed, IsHeld, IsKnown, unknown, weight, IsGrowing, IsCutting, IsPending, IsRelaxed, NoRest, AllAt}
use Rattle.mn_spf_inc.specs.Mending.{WasBest, OneLink, FromPlace, IntoCut, IntoCutOr, IntoCutOrFrom, Offers, OffersBeyond, work}
use Rattle.mn_spf_inc.proofs.Entries.{some_is, none_some, known_way, no_way}
use Rattle.mn_spf_inc.proofs.Nets.{all_there, goes_if_up, goes_when_up}
use Rattle.mn_spf_inc.proofs.Growing.{contains_cases, eased, offered, IsOffered}

-- 1. Back over a link
over_back : (b c : Bool) (x y node : ℕ) → (b ≡ true → x ≡ node) → (c ≡ true → y ≡ node) → (b ≡ false → c ≡ true) →
    (x == (if b then y else x)) ≡ (x == (if b then y else x)) → (d : Bool) → (x == (if b then y else x)) ≡ d → (if d then y else x) ≡ node
over_back true c x y node p q o r true e = sym (eqb-true x y e) ∙ p refl
over_back true c x y node p q o r false e = p refl
over_back false c x y node p q o r true e = q (o refl)
over_back false c x y node p q o r false e = absurd (clash (sym (same_test x) ∙ e))

module _ (v : Learned) where
  ends_of : (node l : ℕ) → is_end (wiring_of v) l node ≡ true → ((link (wiring_of v) l).a.0 == node) ≡ false → ((link (wiring_of v) l).b.0 == node) ≡ true
  ends_of node l e f = elim (or_ways _ _ e) [ inl a ↦ absurd (clash (sym a ∙ f)) | inr b ↦ b ]

  pub back : (node l : ℕ) → goes v node l ≡ true → beyond v (beyond v node l) l ≡ node
  back node l g =
      over_back ((link (wiring_of v) l).a.0 == node) ((link (wiring_of v) l).b.0 == node) (link (wiring_of v) l).a.0 (link (wiring_of v) l).b.0 node
      (λ e. eqb-true _ _ e) (λ e. eqb-true _ _ e) (λ e. ends_of node l (goes_at v node l g).at_node e) refl _ refl

  far_end : (b : Bool) (x y node : ℕ) → ((x == (if b then y else x)) || (y == (if b then y else x))) ≡ true
  far_end true x y node = or_right (x == y) (y == y) (same_test y)
  far_end false x y node = or_left (x == x) (y == x) (same_test x)

  pub goes_back : (node l : ℕ) → goes v node l ≡ true → goes v (beyond v node l) l ≡ true
  goes_back node l g =
      all_true _ _ _ (goes_at v node l g).up (far_end ((link (wiring_of v) l).a.0 == node) (link (wiring_of v) l).a.0 (link (wiring_of v) l).b.0 node)
      (lt-ltb _ _ (goes_at v node l g).there)

-- 2. The places of a list
-- whatever is answered past the end
pub place_is : (links : List LinkNo) (i : ℕ) (d e : LinkNo) → i < length links → (get_or links i d).0 ≡ (get_or links i e).0
place_is links i d e p = ap (λ (n : LinkNo). n.0) (get_or_default links i d e p)

pub next_place : (at : ℕ) (links : List LinkNo) (i node m l : ℕ) (d : LinkNo) →
    (get_or links i d).0 ≡ l → FromPlace at links i node m → FromPlace at links (i + 1) node m ⊎ ((node ≡ at) × (m ≡ l))
next_place at links i node m l d e o =
    elim (still at links i node m o) [
      | inl o ↦ inl o
      | inr o ↦ inr (o.0, sym o.2 ∙ place_is links i (record { 0 = m }) d o.1 ∙ e)
    ]

past_the_end : (k i n : ℕ) → i ≤ k → k < n → n ≤ i → ⊥
past_the_end k i n p q r = omega (arith, p, q, r)

pub no_place : (at : ℕ) (links : List LinkNo) (i node l : ℕ) → length links ≤ i → FromPlace at links i node l → ⊥
no_place at links i node l p o = past_the_end o.1 i (length links) o.2 o.3 p

module _ (v : Learned) (at : ℕ) (links : List LinkNo) (are : AreLinksAt (all_up v.nodes v.ends) at links) where
  pub first_place : (l : ℕ) → goes v at l ≡ true → FromPlace at links 0 at l
  first_place l g = let k = are.all l (goes_if_up v at l g) in (refl, k.0, omega arith, k.1, ap (λ (n : LinkNo). n.0) k.2)

  pub place_there : (i : ℕ) → i < length links → (get_or links i (record { 0 = 0 })).0 < length v.ends
  place_there i p = all_there v at (get_or links i (record { 0 = 0 })).0 (are.each i (record { 0 = 0 }) p)

  pub place_goes : (i l : ℕ) (d : LinkNo) → i < length links → (get_or links i d).0 ≡ l → is_up (links_up v) l ≡ true → goes v at l ≡ true
  place_goes i l d p e u =
      subst (λ n. goes v at n ≡ true) e (goes_when_up v at (get_or links i d).0 (are.each i d p) (sym (ap (is_up (links_up v)) (sym e) ∙ refl) ∙ u))

-- 3. Ways are offered over the links at a node
module _ (v : Learned) (root : ℕ) where
  pub all_to_places : (at : ℕ) (links : List LinkNo) (s : State) → AreLinksAt (all_up v.nodes v.ends) at links → IsGrowing v root (AllAt at) s →
      IsGrowing v root (FromPlace at links 0) s
  all_to_places at links s are h =
      eased v root (AllAt at) (FromPlace at links 0) s h
      (λ n m known p g r o. inl (subst (λ x. FromPlace at links 0 x m) (sym o) (first_place v at links are m (subst (λ x. goes v x m ≡ true) o g))))

  pub places_passed : (at i : ℕ) (links : List LinkNo) (s : State) → length links ≤ i → IsGrowing v root (FromPlace at links i) s → IsGrowing v root NoRest s
  places_passed at i links s e h =
      eased v root (FromPlace at links i) NoRest s h (λ n m known p g r o. absurd (no_place at links i n m e o))

  down_not : (n m l : ℕ) → goes v n m ≡ true → m ≡ l → is_up (links_up v) l ≡ false → ⊥
  down_not n m l g e u = clash (sym (goes_at v n m g).up ∙ ap (is_up (links_up v)) e ∙ u)

  pub place_down : (at i l : ℕ) (d : LinkNo) (links : List LinkNo) (s : State) →
      (get_or links i d).0 ≡ l → is_up (links_up v) l ≡ false → IsGrowing v root (FromPlace at links i) s → IsGrowing v root (FromPlace at links (i + 1)) s
  place_down at i l d links s e u h =
      eased v root (FromPlace at links i) (FromPlace at links (i + 1)) s h
      (λ n m known p g r o. elim (next_place at links i n m l d e o) [ inl o ↦ inl o | inr a ↦ absurd (down_not n m l g a.1 u) ])

  -- 4. Ways are offered to a node from its neighbours
  pub cut_to_places : (at : ℕ) (links : List LinkNo) (cut : List NodeNo) (s : State) → AreLinksAt (all_up v.nodes v.ends) at links →
      IsGrowing v root (IntoCutOr v cut at) s → IsGrowing v root (IntoCutOrFrom v cut at links 0) s
  cut_to_places at links cut s are h =
      eased v root (IntoCutOr v cut at) (IntoCutOrFrom v cut at links 0) s h
      (λ n m known p g r o. elim o [
        | inl o ↦ inl (inl o)
        | inr e ↦ inl
            (inr (subst (λ x. FromPlace at links 0 x m) (sym e) (first_place v at links are m (subst (λ x. goes v x m ≡ true) e (goes_back v n m g)))))
      ])

  pub cut_places_passed : (at i : ℕ) (links : List LinkNo) (cut : List NodeNo) (s : State) → length links ≤ i →
      IsGrowing v root (IntoCutOrFrom v cut at links i) s → IsGrowing v root (IntoCut v cut) s
  cut_places_passed at i links cut s e h =
      eased v root (IntoCutOrFrom v cut at links i) (IntoCut v cut) s h
      (λ n m known p g r o. elim o [ inl o ↦ inl o | inr o ↦ absurd (no_place at links i (beyond v n m) m e o) ])

  pub cut_place_down : (at i l : ℕ) (d : LinkNo) (links : List LinkNo) (cut : List NodeNo) (s : State) →
      (get_or links i d).0 ≡ l → is_up (links_up v) l ≡ false → IsGrowing v root (IntoCutOrFrom v cut at links i) s →
      IsGrowing v root (IntoCutOrFrom v cut at links (i + 1)) s
  cut_place_down at i l d links cut s e u h =
      eased v root (IntoCutOrFrom v cut at links i) (IntoCutOrFrom v cut at links (i + 1)) s h
      (λ n m known p g r o. elim o [
        | inl o ↦ inl (inl o)
        | inr o ↦ elim (next_place at links i (beyond v n m) m l d e o) [ inl o ↦ inl (inr o) | inr a ↦ absurd (down_not n m l g a.1 u) ]
      ])

  -- the links to a node, gone over from the other end
  from_far : (at n m l : ℕ) → goes v n m ≡ true → beyond v n m ≡ at → m ≡ l → n ≡ beyond v at l
  from_far at n m l g e f = sym (back v n m g) ∙ ap (λ x. beyond v x m) e ∙ ap (beyond v at) f

  pub cut_next : (at i l : ℕ) (d : LinkNo) (links : List LinkNo) (cut : List NodeNo) → (get_or links i d).0 ≡ l →
      (n m : ℕ) → goes v n m ≡ true → IntoCutOrFrom v cut at links i n m → IntoCutOrFrom v cut at links (i + 1) n m ⊎ ((n ≡ beyond v at l) × (m ≡ l))
  cut_next at i l d links cut e n m g o =
      elim o [
        | inl o ↦ inl (inl o)
        | inr o ↦ elim (next_place at links i (beyond v n m) m l d e o) [ inl o ↦ inl (inr o) | inr a ↦ inr (from_far at n m l g a.0 a.1, a.1) ]
      ]

  -- 5. What was cut off is of no account but to the links that rest
  pub retargeted : (Rest : ℕ → ℕ → Type 0) (s s' : State) → s'.table ≡ s.table → s'.queue ≡ s.queue → IsGrowing v root Rest s → IsGrowing v root Rest s'
  retargeted Rest s s' t q h =
      subst (λ x. IsGrowing v root Rest (record { table = x; queue = s'.queue; cut = s'.cut })) (sym t)
      (subst (λ x. IsGrowing v root Rest (record { table = s.table; queue = x; cut = s'.cut })) (sym q)
      (record {
        one_each = h.one_each;
        root_cost = h.root_cost;
        root_hop = h.root_hop;
        formed = h.formed;
        held = h.held;
        relaxed = h.relaxed;
        ways = h.ways;
        bounded = h.bounded;
      }))

  -- the next node that was cut off
  pub taken : (cut rest : List NodeNo) (node : NodeNo) (s s' : State) → cut ≡ rest ++ node ∷ [] → s'.table ≡ s.table → s'.queue ≡ s.queue →
      IsGrowing v root (IntoCut v cut) s → IsGrowing v root (IntoCutOr v rest node.0) s'
  taken cut rest node s s' e t q h =
      retargeted (IntoCutOr v rest node.0) s s' t q
      (eased v root (IntoCut v cut) (IntoCutOr v rest node.0) s h (λ n m known p g r o. inl (chosen n m o)))
    where
      chosen : (n m : ℕ) → IntoCut v cut n m → IntoCutOr v rest node.0 n m
      chosen n m o =
          elim (Contains-push_cases rest node (numbered (beyond v n m)) (subst (λ cs. Contains cs (numbered (beyond v n m))) e o)) [
            | inl a ↦ inl a
            | inr a ↦ inr (ap (λ (x : NodeNo). x.0) (sym a))
          ]

  pub none_left : (cut : List NodeNo) (s : State) → cut ≡ [] → IsGrowing v root (IntoCut v cut) s → IsGrowing v root NoRest s
  none_left cut s e h =
      eased v root (IntoCut v cut) NoRest s h (λ n m known p g r o. absurd (none_below o.0 (omega (arith, o.1, ap (λ (x : List NodeNo). length x) e))))

  -- 6. A way comes out of the queue
  module _ (s s' : State) (way : Way) (h : IsGrowing v root NoRest s) (moved : IsPermutation s.queue (queued way ∷ s'.queue)) (e : s'.table ≡ s.table) where
    pub shorter : work s' + 1 ≡ work s
    shorter = omega (arith, ap weight e, length_permutation _ _ moved)

    ways_moved : All (λ w. w.0.to < v.nodes) (queued way ∷ s'.queue)
    ways_moved = All-permutation (λ w. w.0.to < v.nodes) _ _ moved h.ways

    pub way_there : way.to < v.nodes
    way_there = All-head (λ w. w.0.to < v.nodes) _ _ ways_moved

    was_pending : (n m : ℕ) → IsPending s n → WasBest s'.table way n m ⊎ IsPending s' n
    was_pending n m p =
        elim (contains_cases (queued way) (queued p.0) s'.queue (Contains-permutation _ _ _ moved p.1)) [
          | inl a ↦ (let same : way ≡ p.0 = ap (λ (w : Reverse Way). w.0) a in
              inl (
                sym p.2 ∙ ap (λ (w : Way). w.to) (sym same),
                ap (λ t. rank_at t n) e ∙ p.3 ∙ ap (λ (w : Way). let o : Option ℕ = Some (rank_of w) in
                    o) (sym same),
              ))
          | inr a ↦ inr (p.0, a, p.2, ap (λ t. rank_at t n) e ∙ p.3)
        ]

    pub popped : IsGrowing v root (WasBest s'.table way) s'
    popped =
        record {
          one_each = subst (IsTable v.nodes) (sym e) h.one_each;
          root_cost = ap (λ t. dist_at t root) e ∙ h.root_cost;
          root_hop = ap (λ t. next_at t root) e ∙ h.root_hop;
          formed = λ n p. subst (λ t. IsFormed root n (dist_at t n) (next_at t n)) (sym e) (h.formed n p);
          held = λ n known p q r. subst (λ t. IsHeld v root t n known) (sym e) (h.held n known p q (ap (λ t. rank_at t n) (sym e) ∙ r));
          relaxed = λ n m known p g r.
              elim (h.relaxed n m known p g (ap (λ t. rank_at t n) (sym e) ∙ r)) [
                | inl o ↦ absurd o
                | inr o ↦ elim o [
                  | inl a ↦ elim (was_pending n m a) [ inl b ↦ inl b | inr b ↦ inr (inl b) ]
                  | inr a ↦ inr (inr (subst (λ t. IsRelaxed v root t n known m) (sym e) a))
                ]
              ];
          ways = All-tail (λ w. w.0.to < v.nodes) _ _ ways_moved;
          bounded = λ n cost p r. omega (arith, h.bounded n cost p (ap (λ t. dist_at t n) (sym e) ∙ r), ap unknown e);
        }

  module _ (s : State) (way : Way) (there : way.to < v.nodes) (h : IsGrowing v root (WasBest s.table way) s) where
    -- nothing is known of it any more
    pub forgotten_since : way_at s.table way.to ≡ None → IsGrowing v root NoRest s
    forgotten_since is =
        eased v root (WasBest s.table way) NoRest s h
        (λ n m known p g r b. absurd (none_some (rank_of way) (sym (no_way s.table way.to is) ∙ ap (rank_at s.table) (sym b.0) ∙ b.1)))

    now_known : (known : Way) → way_at s.table way.to ≡ Some known → IsKnown v root s.table known × (known.to ≡ way.to)
    now_known known is = known_way v root s.table way.to known there (h.formed way.to there) h.root_cost is

    -- a better way came since
    pub better_since : (known : Way) → way_at s.table way.to ≡ Some known → nat_lt (rank_of known) (rank_of way) ≡ true → IsGrowing v root NoRest s
    better_since known is worse =
        eased v root (WasBest s.table way) NoRest s h
        (λ n m known' p g r b. absurd
        (not_less (rank_of known) (rank_of way) worse
        (some_is (sym (now_known known is).0.rank ∙ ap (rank_at s.table) ((now_known known is).1 ∙ sym b.0) ∙ b.1))))
      where
        not_less : (a b : ℕ) → nat_lt a b ≡ true → a ≡ b → ⊥
        not_less a b e f = omega (arith, ltb-true a b e, f)

    pub best_still : (known : Way) → way_at s.table way.to ≡ Some known → IsGrowing v root (AllAt known.to) s × IsKnown v root s.table known
    best_still known is =
        (eased v root (WasBest s.table way) (AllAt known.to) s h (λ n m known' p g r b. inl (b.0 ∙ sym (now_known known is).1)), (now_known known is).0)

  -- 7. A link that came up is offered from one end and from the other
  pub from_first : (a b l : ℕ) → a ≡ (link (wiring_of v) l).a.0 → b ≡ (link (wiring_of v) l).b.0 → (n m : ℕ) → goes v n m ≡ true → OneLink l n m →
      ((n ≡ b) × (m ≡ l)) ⊎ ((n ≡ a) × (m ≡ l))
  from_first a b l p q n m g o =
      elim (or_ways _ _ (goes_at v n m g).at_node) [
        | inl e ↦ inr (sym (p ∙ ap (λ k. (link (wiring_of v) k).a.0) (sym o) ∙ eqb-true _ _ e), o)
        | inr e ↦ inl (sym (q ∙ ap (λ k. (link (wiring_of v) k).b.0) (sym o) ∙ eqb-true _ _ e), o)
      ]

module _ (v : Learned) (root : ℕ) (net : IsNetwork v.nodes v.ends) (here : root < v.nodes) where
  -- 8. Where something is known of the other end, its way is offered; else there is no such way
  module _ (Rest Rest' : ℕ → ℕ → Type 0) (s s' : State) (from l : ℕ) (h : IsGrowing v root Rest s) (there : from < v.nodes) (g : goes v from l ≡ true)
      (rest : (n m : ℕ) → goes v n m ≡ true → Rest n m → Rest' n m ⊎ ((n ≡ from) × (m ≡ l))) where
    nothing : way_at s.table from ≡ None → IsGrowing v root Rest' s
    nothing e =
        eased v root Rest Rest' s h
        (λ n m known p x r o. elim
        (rest n m x o) [ inl o ↦ inl o | inr a ↦ absurd (none_some known (sym (no_way s.table from e) ∙ ap (rank_at s.table) (sym a.0) ∙ r)) ])

    beyond_as : (o : Option Way) → way_at s.table from ≡ o → MatchOption o (s' ≡ s) (λ way. Offers s s' (way_over root way (link (wiring_of v) l))) →
        IsGrowing v root Rest' s' × (work s' ≤ work s) × (s'.cut ≡ s.cut)
    beyond_as None e t = (subst (IsGrowing v root Rest') (sym t) (nothing e), omega (arith, ap work t), ap (λ (x : State). x.cut) t)
    beyond_as (Some w) e t =
        let k = known_way v root s.table from w there (h.formed from there) h.root_cost e in
        let o : IsOffered v root net here Rest Rest' s s' w l h k.0 (subst (λ n. goes v n l ≡ true) (sym k.1) g)
        (λ n m x r. subst (λ q. Rest' n m ⊎ ((n ≡ q) × (m ≡ l))) (sym k.1) (rest n m x r)) =
        offered v root net here Rest Rest' s s' w l h k.0 (subst (λ n. goes v n l ≡ true) (sym k.1) g)
        (λ n m x r. subst (λ q. Rest' n m ⊎ ((n ≡ q) × (m ≡ l))) (sym k.1) (rest n m x r)) t in
        (o.growing, o.less, o.cut)

    pub offered_beyond : OffersBeyond s s' root from (link (wiring_of v) l) → IsGrowing v root Rest' s' × (work s' ≤ work s) × (s'.cut ≡ s.cut)
    offered_beyond t = beyond_as _ refl t

  -- 9. One link of a node is followed
  pub followed : (s s' : State) (w : Way) (links : List LinkNo) (i l : ℕ) (d : LinkNo) →
      (get_or links i d).0 ≡ l → goes v w.to l ≡ true → IsGrowing v root (FromPlace w.to links i) s → IsKnown v root s.table w →
      Offers s s' (way_over root w (link (wiring_of v) l)) →
      IsGrowing v root (FromPlace w.to links (i + 1)) s' × IsKnown v root s'.table w × (work s' ≤ work s) × (s'.cut ≡ s.cut)
  followed s s' w links i l d e g h k t =
      let o : IsOffered v root net here (FromPlace w.to links i) (FromPlace w.to links (i + 1)) s s' w l h k g
      (λ n m x r. next_place w.to links i n m l d e r) =
      offered v root net here (FromPlace w.to links i) (FromPlace w.to links (i + 1)) s s' w l h k g (λ n m x r. next_place w.to links i n m l d e r) t in
      (o.growing, o.known, o.less, o.cut)

  -- one neighbour's way is offered
  pub reached_over : (s s' : State) (at i l : ℕ) (d : LinkNo) (links : List LinkNo) (cut : List NodeNo) →
      (get_or links i d).0 ≡ l → goes v at l ≡ true → IsGrowing v root (IntoCutOrFrom v cut at links i) s →
      OffersBeyond s s' root (beyond v at l) (link (wiring_of v) l) →
      IsGrowing v root (IntoCutOrFrom v cut at links (i + 1)) s' × (work s' ≤ work s) × (s'.cut ≡ s.cut)
  reached_over s s' at i l d links cut e g h t =
      offered_beyond (IntoCutOrFrom v cut at links i) (IntoCutOrFrom v cut at links (i + 1)) s s' (beyond v at l) l h (beyond_below v net at l g)
      (goes_back v at l g) (cut_next v root at i l d links cut e) t

  -- sums fit
  below_all : (cost l : ℕ) → l < length v.ends → cost ≤ 65535 * v.nodes → cost + (link (wiring_of v) l).cost < 2 ^ 32
  below_all cost l q low =
      omega (
        arith,
        low,
        (net.links l (record { a = record { 0 = 0 }; b = record { 0 = 0 }; cost = 0; delay = 0; loss = 0; life = 0 }) q).bounded,
        net.few_nodes,
      )

  pub sum_fits : (Rest : ℕ → ℕ → Type 0) (s : State) (node cost l : ℕ) → IsGrowing v root Rest s → node < v.nodes → l < length v.ends →
      dist_at s.table node ≡ Some cost → cost + (link (wiring_of v) l).cost < 2 ^ 32
  sum_fits Rest s node cost l h p q e = below_all cost l q (omega (arith, h.bounded node cost p e))

  pub sum_fits_cut : (Late : ℕ → ℕ → Type 0) (s : State) (node cost l : ℕ) → IsCutting v root Late s → node < v.nodes → l < length v.ends →
      dist_at s.table node ≡ Some cost → cost + (link (wiring_of v) l).cost < 2 ^ 32
  sum_fits_cut Late s node cost l h p q e = below_all cost l q (h.small node cost p e)
