-- A node that takes an item comes to stand in its channel's ring.
use Rattle.std.proofs.Common.{◌≡◌, ℕ, true, false, cond, Bool, List, [], ◌∷◌, ◌++◌, Option, Some, None, IsSome, inl, inr, refl, sym, ap, ◌∙◌, subst}
use Rattle.std.proofs.Common.{append_assoc, append-nil, eq-eqb}
use Rattle.std.specs.Prelude.{◌==◌, filter, filter_map, slice_get}
use Rattle.std.specs.List.{AllByRecursion, IsDistinct, cons_option}
use Rattle.std.proofs.lemmas.Bool.{eqb-true}
use Rattle.std.proofs.lemmas.Option.{same_Some}
use Rattle.std.proofs.lemmas.List.Elements.{filter-append, filter_map-append}
use Rattle.mn_base.proofs.Bools.{not_both_ways, other_test}
use Rattle.mn_base.proofs.Places.{all_append}
use Rattle.mn_flight.specs.declared.Item.{Item}
use Rattle.mn_flight_pool.specs.Cells.{same_place, value_at}
use Rattle.mn_flight_pool.specs.Rings.{IsFree, IsRing, item_at, room_at, with_item, prev_of, IsIn}
use Rattle.mn_flight_pool.specs.Pool.{is_on, items_in, nodes_on, IsLinked, entered}
use Rattle.mn_flight_pool.specs.declared.node.Pair.TheVariants.{Channel}
use Rattle.mn_flight_pool.specs.Nodes.{Node}
use Rattle.mn_flight_pool.proofs.Changed.{same_place_symm, stays}
use Rattle.mn_flight_pool.proofs.Neighbours.{in_left, in_at, free_left, free_right, free_from, free_at, others_free, distinct_with, distinct_without}
use Rattle.mn_flight_pool.proofs.Neighbours.{apart_parts, at_places}
use Rattle.mn_flight_pool.proofs.Sooner.{all_in, all_from}
use Rattle.mn_flight_pool.proofs.Rings.{ring_back, ring_last, ring_past_item, ring_aside_link, link_stays, item_past_link, item_put, item_else}
use Rattle.mn_flight_pool.proofs.Rings.{room_past_link, room_past_item}

pub in_right : (xs ys : List ℕ) (x : ℕ) → IsIn x ys → IsIn x (xs ++ ys)
in_right [] ys x i = i
in_right (z ∷ zs) ys x i = inr (in_right zs ys x i)

pub from_filter : (test : ℕ → Bool) (x : ℕ) (xs : List ℕ) → IsIn x (filter test xs) → (test x ≡ true) × IsIn x xs
from_filter test x [] i = absurd i
from_filter test x (y ∷ ys) i = split (test y) refl (from_filter test x ys) i
  where
    split : (b : Bool) → test y ≡ b → (IsIn x (filter test ys) → (test x ≡ true) × IsIn x ys) → IsIn x (cond b (y ∷ filter test ys) (filter test ys)) →
        (test x ≡ true) × IsIn x (y ∷ ys)
    split true t f k = elim k [ inl e ↦ (ap test e ∙ t, inl e) | inr j ↦ ((f j).0, inr (f j).1) ]
    split false t f k = ((f k).0, inr (f k).1)

pub free_filter : (p : ℕ) (test : ℕ → Bool) (xs : List ℕ) → IsFree p xs → IsFree p (filter test xs)
free_filter p test xs f = free_from p (filter test xs) (λ x i. free_at p xs x f (from_filter test x xs i).1)

module _ {T : Type 0} where
  pub one_channel : (c d : ℕ) (o : Option (Item T)) → is_on c o ≡ true → is_on d o ≡ true → c ≡ d
  one_channel c d None p q = cc
  one_channel c d (Some x) p q = sym (eqb-true x.channel c p) ∙ eqb-true x.channel d q

  -- lists whose nodes hold the same items
  pub same_nodes_on : (old new : List (Node T)) (c : ℕ) (ps : List ℕ) →
      ((x : ℕ) → IsIn x ps → item_at new x ≡ item_at old x) → nodes_on new c ps ≡ nodes_on old c ps
  same_nodes_on old new c [] h = refl
  same_nodes_on old new c (p ∷ ps) h =
      (λ i. cond (is_on c (h p (inl refl) i)) (p ∷ nodes_on new c ps) (nodes_on new c ps))
      ∙ ap (λ l. cond (is_on c (item_at old p)) (p ∷ l) l) (same_nodes_on old new c ps (λ x i. h x (inr i)))

  pub same_items : (old new : List (Node T)) (ps : List ℕ) → ((x : ℕ) → IsIn x ps → item_at new x ≡ item_at old x) → items_in new ps ≡ items_in old ps
  same_items old new [] h = refl
  same_items old new (p ∷ ps) h =
      (λ i. cons_option (h p (inl refl) i) (items_in new ps)) ∙ ap (λ l. cons_option (item_at old p) l) (same_items old new ps (λ x i. h x (inr i)))

  module _ (head : ℕ) (heads free order : List ℕ) (p : ℕ) (cells : List (Node T)) (linked : IsLinked head heads (free ++ p ∷ []) order cells)
      (x : Item T) (first : ℕ) (at : slice_get heads x.channel ≡ Some first) where
    abbrev one : List (Node T)
    one = with_item p (Some x) cells

    abbrev two : List (Node T)
    two = entered first p x cells

    -- 1. The node is none of the others
    abbrev others : List ℕ
    others = (head ∷ heads) ++ (order ++ free)

    all_nodes : (head ∷ heads) ++ (order ++ (free ++ p ∷ [])) ≡ others ++ p ∷ []
    all_nodes = ap (λ l. (head ∷ heads) ++ l) (sym (append_assoc order free (p ∷ []))) ∙ sym (append_assoc (head ∷ heads) (order ++ free) (p ∷ []))

    pub alone : IsFree p others
    alone = subst (λ l. IsFree p l) (append-nil others) (others_free others p [] (subst (λ l. IsDistinct same_place l) all_nodes linked.apart))

    pub rest_apart : IsDistinct same_place others
    rest_apart =
        subst (λ l. IsDistinct same_place l) (append-nil others) (distinct_without others p [] (subst (λ l. IsDistinct same_place l) all_nodes linked.apart))

    pub alone_heads : IsFree p (head ∷ heads)
    alone_heads = free_left p (head ∷ heads) (order ++ free) alone

    pub alone_order : IsFree p order
    alone_order = free_left p order free (free_right p (head ∷ heads) (order ++ free) alone)

    pub p_there : IsSome (value_at p cells)
    p_there = last_there free linked.there
      where
        last_there : (fs : List ℕ) → AllByRecursion (λ q. IsSome (value_at q cells)) (fs ++ p ∷ []) → IsSome (value_at p cells)
        last_there [] h = h.0
        last_there (f ∷ fs) h = last_there fs h.1

    -- 2. What holds of the others' items, and of its own
    pub old_item : (q : ℕ) → IsIn q order → item_at two q ≡ item_at cells q
    old_item q i =
        item_past_link Channel p (prev_of Channel one first) q one ∙ item_else p q (Some x) cells (free_at p order q alone_order i)

    pub new_item : item_at two p ≡ Some x
    new_item =
        item_past_link Channel p (prev_of Channel one first) p one ∙ item_put p (Some x) cells p_there

    one_there : IsSome (value_at p one)
    one_there = stays p p (λ (node : Node T). record node { item = Some x }) cells p_there

    -- 3. The channels' rings
    ring_one : (c : ℕ) (f : ℕ) → slice_get heads c ≡ Some f → IsRing Channel one f (nodes_on cells c order)
    ring_one c f e = ring_past_item Channel p (Some x) cells f (nodes_on cells c order) (linked.channel c f e)

    alone_ring : (c : ℕ) (f : ℕ) → slice_get heads c ≡ Some f → IsFree p (f ∷ nodes_on cells c order)
    alone_ring c f e = (free_at p heads f alone_heads.1 (in_at heads c f e), free_filter p (λ q. is_on c (item_at cells q)) order alone_order)

    in_order : (c : ℕ) (q : ℕ) → IsIn q (nodes_on cells c order) → (is_on c (item_at cells q) ≡ true) × IsIn q order
    in_order c q i = from_filter (λ r. is_on c (item_at cells r)) q order i

    head_node : (f q : ℕ) → IsIn f heads → IsIn q order → same_place f q ≡ false
    head_node f q i j = apart_parts (head ∷ heads) (order ++ free) f q rest_apart (inr i) (in_left order free q j)

    -- a node of one channel's ring is none of another's
    strangers : (c d : ℕ) (f g : ℕ) → slice_get heads c ≡ Some f → slice_get heads d ≡ Some g → (c ≡ d → ⊥) →
        (a : ℕ) → IsIn a (f ∷ nodes_on cells c order) → IsFree a (g ∷ nodes_on cells d order)
    unfolding IsDistinct
    strangers c d f g ef eg ne a i = free_from a (g ∷ nodes_on cells d order) (λ q j. elim i [
      | inl e ↦ subst (λ r. same_place r q ≡ false) (sym e) (elim j [
        | inl k ↦ subst (λ r. same_place f r ≡ false) (sym k) (at_places heads (order ++ free) c d f g rest_apart.1 ef eg ne)
        | inr k ↦ head_node f q (in_at heads c f ef) (in_order d q k).1
      ])
      | inr e ↦ elim j [
        | inl k ↦ subst (λ r. same_place a r ≡ false) (sym k) (same_place_symm a g ∙ head_node g a (in_at heads d g eg) (in_order c a e).1)
        | inr k ↦ other_test a q
            (λ same. ne
            (one_channel c d (item_at cells a) (in_order c a e).0 (subst (λ r. is_on d (item_at cells r) ≡ true) (sym same) (in_order d q k).0)))
      ]
    ])

    pub nodes_then : (c : ℕ) → nodes_on two c (order ++ p ∷ []) ≡ nodes_on cells c order ++ cond (x.channel == c) (p ∷ []) []
    nodes_then c =
        filter-append (λ q. is_on c (item_at two q)) order (p ∷ [])
        ∙ ap (λ l. l ++ filter (λ q. is_on c (item_at two q)) (p ∷ [])) (same_nodes_on cells two c order old_item)
        ∙ ap (λ o. nodes_on cells c order ++ cond (is_on c o) (p ∷ []) []) new_item

    pub channel_entered : (c : ℕ) (f : ℕ) → slice_get heads c ≡ Some f → IsRing Channel two f (nodes_on two c (order ++ p ∷ []))
    channel_entered c f e = subst (λ l. IsRing Channel two f l) (sym (nodes_then c)) (by (x.channel == c) refl)
      where
        by : (b : Bool) → (x.channel == c) ≡ b → IsRing Channel two f (nodes_on cells c order ++ cond b (p ∷ []) [])
        by true t =
            let same : x.channel ≡ c = eqb-true x.channel c t in
            let firsts : first ≡ f = same_Some first f (sym at ∙ ap (λ n. slice_get heads n) same ∙ e) in
            subst (λ g. IsRing Channel two g (nodes_on cells c order ++ p ∷ [])) firsts
            (ring_back Channel p first one one_there (nodes_on cells c order)
            (subst (λ n. IsRing Channel one first (nodes_on cells n order)) same (ring_one x.channel first at))
            (subst (λ n. IsFree p (first ∷ nodes_on cells n order)) same (alone_ring x.channel first at)))
        by false t =
            let ne : x.channel ≡ c → ⊥ = λ same. not_both_ways (x.channel == c) (eq-eqb x.channel c same) t in
            let last = ring_last Channel one first (nodes_on cells x.channel order) (ring_one x.channel first at) in
            subst (λ l. IsRing Channel two f l) (sym (append-nil (nodes_on cells c order)))
            (ring_aside_link Channel p (prev_of Channel one first) one f (nodes_on cells c order) (alone_ring c f e)
            (strangers x.channel c first f at e ne (prev_of Channel one first) last.0)
            (subst (λ g. IsFree g (f ∷ nodes_on cells c order)) (sym last.1) (strangers x.channel c first f at e ne first (inl refl))) (ring_one c f e))

    -- 4. All together
    all_front : (P : ℕ → Type 0) (xs : List ℕ) → AllByRecursion P (xs ++ p ∷ []) → AllByRecursion P xs
    all_front P [] h = tt
    all_front P (y ∷ ys) h = (h.0, all_front P ys h.1)

    pub two_there : (q : ℕ) → IsSome (value_at q cells) → IsSome (value_at q two)
    two_there q h =
        link_stays Channel p (prev_of Channel one first) q one (stays p q (λ (node : Node T). record node { item = Some x }) cells h)

    pub room_two : (q : ℕ) → room_at two q ≡ room_at cells q
    room_two q =
        room_past_link Channel p (prev_of Channel one first) q one ∙ room_past_item p q (Some x) cells

    room_order : (qs : List ℕ) → ((q : ℕ) → IsIn q qs → room_at cells q ≡ true) → (q : ℕ) → IsIn q (qs ++ p ∷ []) → room_at cells q ≡ true
    room_order [] old q i = elim i [
      | inl e ↦ subst (λ r. room_at cells r ≡ true) (sym e) (linked.free_room p (in_right free (p ∷ []) p (inl refl)))
      | inr j ↦ absurd j
    ]
    room_order (r ∷ qs) old q i = elim i [ inl e ↦ old q (inl e) | inr j ↦ room_order qs (λ s k. old s (inr k)) q j ]

    pub linked_entered : IsLinked head heads free (order ++ p ∷ []) two
    linked_entered = record {
      channel = channel_entered;
      apart =
          let moved : ((head ∷ heads) ++ order) ++ p ∷ free ≡ (head ∷ heads) ++ ((order ++ p ∷ []) ++ free) =
          append_assoc (head ∷ heads) order (p ∷ free) ∙ ap (λ l. (head ∷ heads) ++ l) (sym (append_assoc order (p ∷ []) free)) in
          let split : (head ∷ heads) ++ (order ++ free) ≡ ((head ∷ heads) ++ order) ++ free = sym (append_assoc (head ∷ heads) order free) in
          subst (λ l. IsDistinct same_place l) moved
          (distinct_with ((head ∷ heads) ++ order) p free (subst (λ l. IsFree p l) split alone) (subst (λ l. IsDistinct same_place l) split rest_apart));
      held =
          all_append (λ q. IsSome (item_at two q)) order (p ∷ [])
          (all_from (λ q. IsSome (item_at two q)) order (λ q i. rw (old_item q i) (all_in (λ r. IsSome (item_at cells r)) order q linked.held i)))
          (rw new_item refl, tt);
      there = all_from (λ q. IsSome (value_at q two)) free
          (λ q i. two_there q (all_in (λ r. IsSome (value_at r cells)) free q (all_front (λ r. IsSome (value_at r cells)) free linked.there) i));
      head_room = room_two head ∙ linked.head_room;
      order_room = λ q i. room_two q ∙ room_order order linked.order_room q i;
      free_room = λ q i. room_two q ∙ linked.free_room q (in_left free (p ∷ []) q i);
    }

    pub items_entered : items_in two (order ++ p ∷ []) ≡ items_in cells order ++ x ∷ []
    items_entered =
        filter_map-append (item_at two) order (p ∷ []) ∙ ap (λ l. l ++ filter_map (item_at two) (p ∷ [])) (same_items cells two order old_item)
        ∙ ap (λ o. items_in cells order ++ cons_option o []) new_item
