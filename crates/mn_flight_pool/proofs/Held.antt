-- What a pool keeps, as an item leaves and as a node is added.
use Rattle.std.proofs.Common.{◌≡◌, ◌<◌, ℕ, zero, suc, true, false, Bool, List, [], ◌∷◌, ◌++◌, length, Option, Some, None, IsSome, inl, inr, refl, sym}
use Rattle.std.proofs.Common.{ap, ◌∙◌, subst, append_assoc, append-nil, arith, length-append}
use Rattle.std.specs.Prelude.{slice_get, slice_index_or, remove}
use Rattle.mn_base.proofs.Places.{all_append}
use Rattle.mn_flight.specs.Flying.{without}
use Rattle.mn_flight.proofs.Taken.{removed, removed_flies}
use Rattle.mn_flight_pool.proofs.Left.{items_before, items_left}
use Rattle.mn_flight_pool.proofs.Linked.{head_there, order_there}
use Rattle.std.specs.List.{AllByRecursion, IsDistinct}
use Rattle.mn_flight.specs.declared.Item.{Item}
use Rattle.mn_flight.specs.Flying.{IsFlight}
use Rattle.mn_flight_pool.specs.Cells.{same_place, value_at}
use Rattle.mn_flight_pool.specs.Rings.{IsFree, IsRing, IsVacantLast, item_in, item_at, room_in, room_at, next_in, prev_in, IsIn}
use Rattle.mn_flight_pool.specs.Pool.{trace, items_in, nodes_on, IsLinked, left}
use Rattle.mn_flight_pool.specs.declared.node.Pair.{Pair}
use Rattle.mn_flight_pool.specs.declared.node.Pair.TheVariants.{Channel}
use Rattle.mn_flight_pool.specs.Nodes.{Node}
use Rattle.mn_flight_pool.proofs.Changed.{same_place_eq, value_before, value_last}
use Rattle.mn_flight_pool.proofs.Changed.{same_place_symm}
use Rattle.mn_flight_pool.proofs.Neighbours.{free_from, free_both, distinct_with}
use Rattle.mn_flight_pool.proofs.Sooner.{all_in, all_from}
use Rattle.mn_flight_pool.proofs.Rings.{ring_same}
use Rattle.mn_flight_pool.proofs.Entered.{same_items, same_nodes_on}

pub length-trace : (next : ℕ → ℕ) (s : ℕ) (n : ℕ) → length (trace next s n) ≡ n
length-trace next s zero = refl
length-trace next s (suc n) = ap suc (length-trace next (next s) n)

pub place_of : (q : ℕ) (xs : List ℕ) → IsIn q xs → (c : ℕ) × (slice_get xs c ≡ Some q)
place_of q [] i = absurd i
place_of q (y ∷ ys) i = elim i [ inl e ↦ (0, ap (λ z. Some z) (sym e)) | inr j ↦ let on = place_of q ys j in (suc on.0, on.1) ]

module _ {T : Type 0} where
  -- the node that is added
  pub value_added : (p : ℕ) (old new : List (Node T)) (added : IsVacantLast p old new) → value_at p new ≡ Some added.0
  value_added p old _ added =
      ap (λ c. value_at p c) added.1 ∙ ap (λ q. value_at q (old ++ added.0 ∷ [])) added.3 ∙ value_last old added.0

  -- a node is added
  module _ (p : ℕ) (old new : List (Node T)) (added : IsVacantLast p old new) (fresh : value_at p old ≡ None) where
    pub not_p : (x : ℕ) → IsSome (value_at x old) → same_place x p ≡ false
    not_p x h = by (same_place x p) refl
      where
        by : (b : Bool) → same_place x p ≡ b → same_place x p ≡ false
        by true t = absurd (none (value_at p old) fresh (subst (λ q. IsSome (value_at q old)) (same_place_eq x p t) h))
          where
            none : (o : Option (Node T)) → o ≡ None → IsSome o → ⊥
            none None e s = cc
            none (Some y) e s = cc
        by false t = t

    pub value_kept : (x : ℕ) → IsSome (value_at x old) → value_at x new ≡ value_at x old
    value_kept x h = ap (λ c. value_at x c) added.1 ∙ value_before x old added.0 h

    pub ring_kept : (pair : Pair) (s : ℕ) (ps : List ℕ) → IsRing pair old s ps → IsRing pair new s ps
    ring_kept pair =
        ring_same old new (λ x h. subst (λ o. IsSome o) (sym (value_kept x h)) h) pair (λ x h. ap (next_in pair) (value_kept x h))
        (λ x h. ap (prev_in pair) (value_kept x h))

    pub there_p : IsSome (value_at p new)
    there_p = subst (λ o. IsSome o) (sym (value_added p old new added)) refl

    module _ (head : ℕ) (heads free order : List ℕ) (linked : IsLinked head heads free order old)
        (heads_there : AllByRecursion (λ q. IsSome (value_at q old)) heads) where
      pub item_kept : (q : ℕ) → IsIn q order → item_at new q ≡ item_at old q
      item_kept q i = ap item_in (value_kept q (order_there head heads free order old linked q i))

      pub items_added : items_in new order ≡ items_in old order
      items_added = same_items old new order item_kept

      pub alone : IsFree p ((head ∷ heads) ++ (order ++ free))
      alone =
          free_both p (head ∷ heads) (order ++ free) (
            apart head (head_there head heads free order old linked),
            free_from p heads (λ q i. apart q (all_in (λ r. IsSome (value_at r old)) heads q heads_there i)),
          )
          (free_both p order free
          (free_from p order (λ q i. apart q (order_there head heads free order old linked q i)))
          (free_from p free (λ q i. apart q (all_in (λ r. IsSome (value_at r old)) free q linked.there i))))
        where
          apart : (q : ℕ) → IsSome (value_at q old) → same_place p q ≡ false
          apart q h = same_place_symm p q ∙ not_p q h

      room_old : (q : ℕ) → IsSome (value_at q old) → room_at old q ≡ true → room_at new q ≡ true
      room_old q there h = ap room_in (value_kept q there) ∙ h

      room_free : room_at new p ≡ true → (fs : List ℕ) → ((q : ℕ) → IsIn q fs → room_at new q ≡ true) → (q : ℕ) → IsIn q (fs ++ p ∷ []) →
          room_at new q ≡ true
      room_free own [] known q i = elim i [ inl e ↦ subst (λ r. room_at new r ≡ true) (sym e) own | inr j ↦ absurd j ]
      room_free own (r ∷ fs) known q i = elim i [ inl e ↦ known q (inl e) | inr j ↦ room_free own fs (λ s k. known s (inr k)) q j ]

      pub linked_added : room_at new p ≡ true → IsLinked head heads (free ++ p ∷ []) order new
      linked_added own = record {
        channel =
            λ c f e. subst (λ l. IsRing Channel new f l) (sym (same_nodes_on old new c order item_kept))
            (ring_kept Channel f (nodes_on old c order) (linked.channel c f e));
        apart =
            let whole : ((head ∷ heads) ++ (order ++ free)) ++ p ∷ [] ≡ (head ∷ heads) ++ (order ++ (free ++ p ∷ [])) =
            append_assoc (head ∷ heads) (order ++ free) (p ∷ []) ∙ ap (λ l. (head ∷ heads) ++ l) (append_assoc order free (p ∷ [])) in
            subst (λ l. IsDistinct same_place l) whole
            (distinct_with ((head ∷ heads) ++ (order ++ free)) p [] (free_both p ((head ∷ heads) ++ (order ++ free)) [] alone tt)
            (subst (λ l. IsDistinct same_place l) (sym (append-nil ((head ∷ heads) ++ (order ++ free)))) linked.apart));
        held = all_from (λ q. IsSome (item_at new q)) order
            (λ q i. subst (λ o. IsSome o) (sym (item_kept q i)) (all_in (λ r. IsSome (item_at old r)) order q linked.held i));
        there = all_append (λ q. IsSome (value_at q new)) free (p ∷ [])
            (all_from (λ q. IsSome (value_at q new)) free
            (λ q i. subst (λ o. IsSome o) (sym (value_kept q (all_in (λ r. IsSome (value_at r old)) free q linked.there i)))
            (all_in (λ r. IsSome (value_at r old)) free q linked.there i))) (there_p, tt);
        head_room = room_old head (head_there head heads free order old linked) linked.head_room;
        order_room =
            λ q i. room_old q (order_there head heads free order old linked q i) (linked.order_room q i);
        free_room = room_free own free
            (λ q i. room_old q (all_in (λ r. IsSome (value_at r old)) free q linked.there i) (linked.free_room q i));
      }

  -- the channels' first nodes are there
  pub heads_there : (head : ℕ) (heads free order : List ℕ) (cells : List (Node T)) → IsLinked head heads free order cells →
      AllByRecursion (λ q. IsSome (value_at q cells)) heads
  heads_there head heads free ps cells linked = all heads (λ q i. let on = place_of q heads i in (linked.channel on.0 q on.1).there.0)
    where
      all : (xs : List ℕ) → ((q : ℕ) → IsIn q xs → IsSome (value_at q cells)) → AllByRecursion (λ q. IsSome (value_at q cells)) xs
      all [] h = tt
      all (q ∷ qs) h = (h q (inl refl), all qs (λ r i. h r (inr i)))

  -- an item leaves
  module _ (head : ℕ) (heads free us : List ℕ) (p : ℕ) (vs : List ℕ) (cells : List (Node T)) (linked : IsLinked head heads free (us ++ p ∷ vs) cells)
      (flight : IsFlight (length heads) (items_in cells (us ++ p ∷ vs))) (x : Item T) (first : ℕ)
      (holds : item_at cells p ≡ Some x) (at : slice_get heads x.channel ≡ Some first) where
    items_before_it : items_in cells (us ++ p ∷ vs) ≡ items_in cells us ++ x ∷ items_in cells vs
    items_before_it = items_before head heads free us p vs cells linked x first holds at

    items_after : items_in (left p cells) (us ++ vs) ≡ items_in cells us ++ items_in cells vs
    items_after = items_left head heads free us p vs cells linked x first holds at

    flight_before : IsFlight (length heads) (items_in cells us ++ x ∷ items_in cells vs)
    flight_before = subst (λ xs. IsFlight (length heads) xs) items_before_it flight

    dropped : remove (items_in cells us ++ x ∷ items_in cells vs) (length (items_in cells us)) ≡ items_in cells us ++ items_in cells vs
    dropped = cut_out (items_in cells us)
      where
        cut_out : (xs : List (Item T)) → remove (xs ++ x ∷ items_in cells vs) (length xs) ≡ xs ++ items_in cells vs
        cut_out [] = refl
        cut_out (a ∷ bs) = ap (λ l. a ∷ l) (cut_out bs)

    read : x ≡ slice_index_or (items_in cells us ++ x ∷ items_in cells vs) (length (items_in cells us)) x
    read = at_end (items_in cells us)
      where
        at_end : (xs : List (Item T)) → x ≡ slice_index_or (xs ++ x ∷ items_in cells vs) (length xs) x
        at_end [] = refl
        at_end (a ∷ bs) = at_end bs

    inside : length (items_in cells us) < length (items_in cells us ++ x ∷ items_in cells vs)
    inside = omega (arith, length-append (items_in cells us) (x ∷ items_in cells vs))

    -- what is left is all but the item
    pub items_without : items_in (left p cells) (us ++ vs) ≡ without (Some x) (items_in cells (us ++ p ∷ vs))
    items_without =
        items_after ∙ sym dropped
        ∙ removed (length heads) (items_in cells us ++ x ∷ items_in cells vs) (length (items_in cells us)) x inside read flight_before
        ∙ ap (λ xs. without (Some x) xs) (sym items_before_it)

    pub flight_left : IsFlight (length heads) (items_in (left p cells) (us ++ vs))
    flight_left =
        removed_flies (length heads) (items_in cells us ++ x ∷ items_in cells vs) (items_in (left p cells) (us ++ vs)) (length (items_in cells us)) x inside
        read flight_before (items_after ∙ sym dropped)
