-- A node leaves its channel's ring with its item, and is free.
use Rattle.std.proofs.Common.{◌≡◌, ℕ, true, false, cond, Bool, List, [], ◌∷◌, ◌++◌, Some, None, IsSome, inl, inr, refl, sym, ap, ◌∙◌, subst, append_assoc}
use Rattle.std.proofs.Common.{append-nil, eq-eqb}
use Rattle.std.specs.Prelude.{◌==◌, slice_get}
use Rattle.std.specs.List.{IsDistinct, cons_option}
use Rattle.std.proofs.lemmas.List.Elements.{filter-append, filter_map-append}
use Rattle.mn_base.proofs.Bools.{not_both_ways, other_test}
use Rattle.mn_base.proofs.Places.{all_append}
use Rattle.mn_flight.specs.declared.Item.{Item}
use Rattle.mn_flight_pool.specs.Cells.{same_place, value_at}
use Rattle.mn_flight_pool.specs.Rings.{IsFree, IsRing, item_at, room_at, next_of, prev_of, unlink, IsIn}
use Rattle.mn_flight_pool.specs.Pool.{is_on, items_in, nodes_on, IsLinked, left}
use Rattle.mn_flight_pool.specs.declared.node.Pair.TheVariants.{Channel}
use Rattle.mn_flight_pool.specs.Nodes.{Node}
use Rattle.mn_flight_pool.proofs.Changed.{same_place_symm, stays}
use Rattle.mn_flight_pool.proofs.Linked.{order_there}
use Rattle.mn_flight_pool.proofs.Neighbours.{in_left, in_at, free_left, free_right, free_both, free_from, free_at, others_free, distinct_with}
use Rattle.mn_flight_pool.proofs.Neighbours.{distinct_without, apart_parts, at_places, all_without}
use Rattle.mn_flight_pool.proofs.Sooner.{all_in, all_from}
use Rattle.mn_flight_pool.proofs.Rings.{ring_unlinked, ring_past_item, ring_aside_unlink, ring_sides, unlink_stays, item_past_unlink}
use Rattle.mn_flight_pool.proofs.Rings.{item_else, room_past_item, room_past_unlink}
use Rattle.mn_flight_pool.proofs.Entered.{from_filter, one_channel, same_nodes_on, same_items}

module _ {T : Type 0} (head : ℕ) (heads free us : List ℕ) (p : ℕ) (vs : List ℕ) (cells : List (Node T))
    (linked : IsLinked head heads free (us ++ p ∷ vs) cells) (x : Item T) (first : ℕ) (holds : item_at cells p ≡ Some x)
    (at : slice_get heads x.channel ≡ Some first) where
  abbrev order : List ℕ
  order = us ++ p ∷ vs

  abbrev one : List (Node T)
  one = unlink Channel p cells

  abbrev two : List (Node T)
  two = left p cells

  -- 1. The node is none of the others
  cut : ((head ∷ heads) ++ us) ++ p ∷ (vs ++ free) ≡ (head ∷ heads) ++ (order ++ free)
  cut = append_assoc (head ∷ heads) us (p ∷ (vs ++ free)) ∙ ap (λ l. (head ∷ heads) ++ l) (sym (append_assoc us (p ∷ vs) free))

  abbrev others : List ℕ
  others = ((head ∷ heads) ++ us) ++ (vs ++ free)

  pub alone : IsFree p others
  alone = others_free ((head ∷ heads) ++ us) p (vs ++ free) (subst (λ l. IsDistinct same_place l) (sym cut) linked.apart)

  rest_apart : IsDistinct same_place others
  rest_apart = distinct_without ((head ∷ heads) ++ us) p (vs ++ free) (subst (λ l. IsDistinct same_place l) (sym cut) linked.apart)

  pub alone_order : IsFree p (us ++ vs)
  alone_order =
      free_both p us vs (free_right p (head ∷ heads) us (free_left p ((head ∷ heads) ++ us) (vs ++ free) alone))
      (free_left p vs free (free_right p ((head ∷ heads) ++ us) (vs ++ free) alone))

  here : (xs : List ℕ) → IsIn p (xs ++ p ∷ vs)
  here [] = inl refl
  here (z ∷ zs) = inr (here zs)

  pub p_there : IsSome (value_at p cells)
  p_there = order_there head heads free order cells linked p (here us)

  -- 2. Items
  pub old_item : (q : ℕ) → IsIn q (us ++ vs) → item_at two q ≡ item_at cells q
  old_item q i = item_else p q None one (free_at p (us ++ vs) q alone_order i) ∙ item_past_unlink Channel p q cells

  one_there : (q : ℕ) → IsSome (value_at q cells) → IsSome (value_at q one)
  one_there q h = unlink_stays Channel p q cells h

  pub two_there : (q : ℕ) → IsSome (value_at q cells) → IsSome (value_at q two)
  two_there q h = stays p q (λ (node : Node T). record node { item = None }) one (one_there q h)

  -- 3. The channels' rings
  in_order : (c : ℕ) (q : ℕ) → IsIn q (nodes_on cells c order) → (is_on c (item_at cells q) ≡ true) × IsIn q order
  in_order c q i = from_filter (λ r. is_on c (item_at cells r)) q order i

  head_node : (f q : ℕ) → IsIn f heads → IsIn q order → same_place f q ≡ false
  head_node f q i j = apart_parts (head ∷ heads) (order ++ free) f q linked.apart (inr i) (in_left order free q j)

  strangers : (c d : ℕ) (f g : ℕ) → slice_get heads c ≡ Some f → slice_get heads d ≡ Some g → (c ≡ d → ⊥) →
      (a : ℕ) → IsIn a (f ∷ nodes_on cells c order) → IsFree a (g ∷ nodes_on cells d order)
  unfolding IsDistinct
  strangers c d f g ef eg ne a i = free_from a (g ∷ nodes_on cells d order) (λ q j. elim i [
    | inl e ↦ subst (λ r. same_place r q ≡ false) (sym e) (elim j [
      | inl k ↦ subst (λ r. same_place f r ≡ false) (sym k) (at_places heads (order ++ free) c d f g linked.apart.1 ef eg ne)
      | inr k ↦ head_node f q (in_at heads c f ef) (in_order d q k).1
    ])
    | inr e ↦ elim j [
      | inl k ↦ subst (λ r. same_place a r ≡ false) (sym k) (same_place_symm a g ∙ head_node g a (in_at heads d g eg) (in_order c a e).1)
      | inr k ↦ other_test a q
          (λ same. ne (one_channel c d (item_at cells a) (in_order c a e).0 (subst (λ r. is_on d (item_at cells r) ≡ true) (sym same) (in_order d q k).0)))
    ]
  ])

  pub nodes_before : (c : ℕ) → nodes_on cells c order ≡ nodes_on cells c us ++ cond (x.channel == c) (p ∷ nodes_on cells c vs) (nodes_on cells c vs)
  nodes_before c =
      filter-append (λ q. is_on c (item_at cells q)) us (p ∷ vs)
      ∙ ap (λ o. nodes_on cells c us ++ cond (is_on c o) (p ∷ nodes_on cells c vs) (nodes_on cells c vs)) holds

  pub nodes_then : (c : ℕ) → nodes_on two c (us ++ vs) ≡ nodes_on cells c us ++ nodes_on cells c vs
  nodes_then c = same_nodes_on cells two c (us ++ vs) old_item ∙ filter-append (λ q. is_on c (item_at cells q)) us vs

  own_ring : IsRing Channel cells first (nodes_on cells x.channel us ++ p ∷ nodes_on cells x.channel vs)
  own_ring =
      subst (λ l. IsRing Channel cells first l)
      (nodes_before x.channel ∙ ap (λ b. nodes_on cells x.channel us ++ cond b (p ∷ nodes_on cells x.channel vs) (nodes_on cells x.channel vs))
      (eq-eqb x.channel x.channel refl)) (linked.channel x.channel first at)

  sides : IsIn (prev_of Channel cells p) (first ∷ nodes_on cells x.channel order) × IsIn (next_of Channel cells p) (first ∷ nodes_on cells x.channel order)
  sides =
      let back : nodes_on cells x.channel us ++ p ∷ nodes_on cells x.channel vs ≡ nodes_on cells x.channel order =
      sym (nodes_before x.channel ∙ ap (λ b. nodes_on cells x.channel us ++ cond b (p ∷ nodes_on cells x.channel vs) (nodes_on cells x.channel vs))
      (eq-eqb x.channel x.channel refl)) in
      let both = ring_sides Channel cells first (nodes_on cells x.channel us) p (nodes_on cells x.channel vs) own_ring in
      (subst (λ l. IsIn (prev_of Channel cells p) (first ∷ l)) back both.0, subst (λ l. IsIn (next_of Channel cells p) (first ∷ l)) back both.1)

  pub channel_left : (c : ℕ) (f : ℕ) → slice_get heads c ≡ Some f → IsRing Channel two f (nodes_on two c (us ++ vs))
  channel_left c f e =
      subst (λ l. IsRing Channel two f l) (sym (nodes_then c))
      (ring_past_item Channel p None one f (nodes_on cells c us ++ nodes_on cells c vs) (by (x.channel == c) refl))
    where
      by : (b : Bool) → (x.channel == c) ≡ b → IsRing Channel one f (nodes_on cells c us ++ nodes_on cells c vs)
      by true t =
          ring_unlinked Channel f cells (nodes_on cells c us) p (nodes_on cells c vs)
          (subst (λ l. IsRing Channel cells f l) (nodes_before c ∙ ap (λ b. nodes_on cells c us ++ cond b (p ∷ nodes_on cells c vs) (nodes_on cells c vs)) t)
          (linked.channel c f e))
      by false t =
          let ne : x.channel ≡ c → ⊥ = λ same. not_both_ways (x.channel == c) (eq-eqb x.channel c same) t in
          let ring =
          ring_aside_unlink Channel p cells f (nodes_on cells c order) (strangers x.channel c first f at e ne (prev_of Channel cells p) sides.0)
          (strangers x.channel c first f at e ne (next_of Channel cells p) sides.1) (linked.channel c f e) in
          subst (λ l. IsRing Channel one f l) (nodes_before c ∙ ap (λ b. nodes_on cells c us ++ cond b (p ∷ nodes_on cells c vs) (nodes_on cells c vs)) t) ring

  -- 4. All together
  room_two : (q : ℕ) → room_at two q ≡ room_at cells q
  room_two q = room_past_item p q None one ∙ room_past_unlink Channel p q cells

  order_with : (xs : List ℕ) (q : ℕ) → IsIn q (xs ++ vs) → IsIn q (xs ++ p ∷ vs)
  order_with [] q i = inr i
  order_with (z ∷ zs) q i = elim i [ inl e ↦ inl e | inr j ↦ inr (order_with zs q j) ]

  room_free : (fs : List ℕ) → ((q : ℕ) → IsIn q fs → room_at cells q ≡ true) → (q : ℕ) → IsIn q (fs ++ p ∷ []) → room_at cells q ≡ true
  room_free [] old q i = elim i [ inl e ↦ subst (λ r. room_at cells r ≡ true) (sym e) (linked.order_room p (here us)) | inr j ↦ absurd j ]
  room_free (r ∷ fs) old q i = elim i [ inl e ↦ old q (inl e) | inr j ↦ room_free fs (λ s k. old s (inr k)) q j ]

  pub linked_left : IsLinked head heads (free ++ p ∷ []) (us ++ vs) two
  linked_left = record {
    channel = channel_left;
    apart =
        let whole : others ++ p ∷ [] ≡ (head ∷ heads) ++ ((us ++ vs) ++ (free ++ p ∷ [])) =
        append_assoc ((head ∷ heads) ++ us) (vs ++ free) (p ∷ []) ∙ append_assoc (head ∷ heads) us ((vs ++ free) ++ p ∷ [])
        ∙ ap (λ l. (head ∷ heads) ++ (us ++ l)) (append_assoc vs free (p ∷ [])) ∙ ap (λ l. (head ∷ heads) ++ l) (sym (append_assoc us vs (free ++ p ∷ []))) in
        subst (λ l. IsDistinct same_place l) whole
        (distinct_with others p [] (subst (λ l. IsFree p l) (sym (append-nil others)) alone)
        (subst (λ l. IsDistinct same_place l) (sym (append-nil others)) rest_apart));
    held = all_from (λ q. IsSome (item_at two q)) (us ++ vs)
        (λ q i. rw (old_item q i)
        (all_in (λ r. IsSome (item_at cells r)) (us ++ vs) q (all_without (λ r. IsSome (item_at cells r)) us p vs linked.held) i));
    there = all_append (λ q. IsSome (value_at q two)) free (p ∷ [])
        (all_from (λ q. IsSome (value_at q two)) free (λ q i. two_there q (all_in (λ r. IsSome (value_at r cells)) free q linked.there i)))
        (two_there p p_there, tt);
    head_room = room_two head ∙ linked.head_room;
    order_room = λ q i. room_two q ∙ linked.order_room q (order_with us q i);
    free_room = λ q i. room_two q ∙ room_free free linked.free_room q i;
  }

  -- the items before are those after and, between them, the item taken
  pub items_before : items_in cells order ≡ items_in cells us ++ x ∷ items_in cells vs
  items_before = filter_map-append (item_at cells) us (p ∷ vs) ∙ ap (λ o. items_in cells us ++ cons_option o (items_in cells vs)) holds

  pub items_left : items_in two (us ++ vs) ≡ items_in cells us ++ items_in cells vs
  items_left = same_items cells two (us ++ vs) old_item ∙ filter_map-append (item_at cells) us vs
