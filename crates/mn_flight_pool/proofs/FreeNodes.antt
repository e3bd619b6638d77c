-- The nodes that hold no item, one behind another.
use Rattle.std.proofs.Common.{◌≡◌, ℕ, zero, suc, false, List, [], ◌∷◌, ◌++◌, Some, None, IsSome, inl, inr, refl, sym, ap, ◌∙◌, subst, append_assoc, append-nil}
use Rattle.std.specs.List.{AllByRecursion, IsDistinct}
use Rattle.mn_flight_pool.specs.Cells.{same_place, value_at}
use Rattle.mn_flight_pool.specs.Rings.{IsFree, IsIn, IsRing, item_in, item_at, room_in, next_in, prev_in, next_of, prev_of, with_item, set_next, set_prev}
use Rattle.mn_flight_pool.specs.Rings.{link_behind, unlink}
use Rattle.mn_flight_pool.specs.Pool.{chain, free_of, entered, left, IsLinked}
use Rattle.mn_flight_pool.specs.ByDue.{IsByDue, IsTick}
use Rattle.mn_flight_pool.specs.Nodes.{Node}
use Rattle.mn_flight_pool.specs.declared.node.Link.{Link}
use Rattle.mn_flight_pool.specs.declared.node.Pair.{Pair}
use Rattle.mn_flight_pool.specs.declared.node.Pair.TheVariants.{Channel, Due}
use Rattle.mn_flight_pool.specs.declared.tick.Tick.{Tick}
use Rattle.mn_flight.specs.declared.Item.{Item}
use Rattle.mn_flight_pool.proofs.Changed.{next_stays, keeps}
use Rattle.mn_flight_pool.proofs.Neighbours.{free_left, free_right, others_free, distinct_with, distinct_without, apart_parts, all_turned, free_at}
use Rattle.mn_flight_pool.proofs.Neighbours.{same_neighbours}
use Rattle.mn_flight_pool.proofs.Rings.{Unlike, item_kept, room_kept, link_unlike, set_next_leaves, link_leaves, unlink_leaves, ring_same, item_next}
use Rattle.mn_flight_pool.proofs.Rings.{next_at, next_else, next_past, prev_past}
use Rattle.mn_flight_pool.proofs.Sooner.{all_in, sooner_same, tick_item, item_tick, all_kept}
use Rattle.mn_flight_pool.proofs.Entered.{in_right}
use Rattle.mn_flight_pool.proofs.PastDue.{Alike, due_channel}
use Rattle.mn_flight_pool.proofs.DueEntered.{channel_due}

-- 1. The ring by due tick where the items stay
module _ {T : Type 0} where
  pub by_due_same : (head : ℕ) (order dues : List ℕ) (ticks : List Tick) (old new : List (Node T)) → IsByDue head order dues ticks old →
      IsRing Due new head dues → item_at new head ≡ None → ((q : ℕ) → IsIn q order → item_at new q ≡ item_at old q)
      → IsByDue head order dues ticks new
  by_due_same head order dues ticks old new due ring vacant same = record {
    ring = ring;
    vacant = vacant;
    sooner = sooner_same old new dues (λ q i. same q (due.flies q i)) due.sooner;
    flies = due.flies;
    stands = due.stands;
    many = due.many;
    ascending = due.ascending;
    lasts = all_kept (IsTick old order) (IsTick new order) ticks (λ t is.
        let last = tick_item old order t.due (item_at old t.last.index) is.last in
        record {
          there = is.there;
          last =
              item_tick new order t.due (item_at new t.last.index) last.0 (same t.last.index is.there ∙ last.1) last.2
              (λ q y i e f. last.3 q y i (sym (same q i) ∙ e) f);
        }) due.lasts;
    each = λ q y i e. due.each q y i (sym (same q i) ∙ e);
  }

-- 2. The order of a list of free nodes doesn't matter
in_either : (q : ℕ) (xs : List ℕ) (p : ℕ) → IsIn q (xs ++ p ∷ []) → IsIn q (p ∷ xs)
in_either q [] p i = i
in_either q (x ∷ xs) p i = elim i [ inl e ↦ inr (inl e) | inr j ↦ elim (in_either q xs p j) [ inl e ↦ inl e | inr k ↦ inr (inr k) ] ]

in_turned : (q : ℕ) (xs : List ℕ) (p : ℕ) → IsIn q (p ∷ xs) → IsIn q (xs ++ p ∷ [])
in_turned q [] p i = i
in_turned q (x ∷ xs) p i = elim i [ inl e ↦ inr (in_turned q xs p (inl e)) | inr j ↦ elim j [ inl e ↦ inl e | inr k ↦ inr (in_turned q xs p (inr k)) ] ]

all_back : (P : ℕ → Type 0) (xs : List ℕ) (p : ℕ) → AllByRecursion P (xs ++ p ∷ []) → AllByRecursion P (p ∷ xs)
all_back P [] p h = h
all_back P (x ∷ xs) p h = let rest = all_back P xs p h.1 in (rest.0, (h.0, rest.1))

apart_turned : (xs ys : List ℕ) (p : ℕ) → IsDistinct same_place (xs ++ p ∷ ys) → IsDistinct same_place (xs ++ (ys ++ p ∷ []))
apart_turned xs ys p d =
    subst (λ l. IsDistinct same_place l) (append_assoc xs ys (p ∷ []))
    (distinct_with (xs ++ ys) p [] (subst (λ l. IsFree p l) (sym (append-nil (xs ++ ys))) (others_free xs p ys d))
    (subst (λ l. IsDistinct same_place l) (sym (append-nil (xs ++ ys))) (distinct_without xs p ys d)))

apart_back : (xs ys : List ℕ) (p : ℕ) → IsDistinct same_place (xs ++ (ys ++ p ∷ [])) → IsDistinct same_place (xs ++ p ∷ ys)
apart_back xs ys p d =
    let d' = subst (λ l. IsDistinct same_place l) (sym (append_assoc xs ys (p ∷ []))) d in
    distinct_with xs p ys (subst (λ l. IsFree p l) (append-nil (xs ++ ys)) (others_free (xs ++ ys) p [] d'))
    (subst (λ l. IsDistinct same_place l) (append-nil (xs ++ ys)) (distinct_without (xs ++ ys) p [] d'))

at_front : (head : ℕ) (heads order xs : List ℕ) → (head ∷ heads) ++ (order ++ xs) ≡ ((head ∷ heads) ++ order) ++ xs
at_front head heads order xs = sym (append_assoc (head ∷ heads) order xs)

module _ {T : Type 0} where
  module _ (head : ℕ) (heads rest order : List ℕ) (p : ℕ) (cells : List (Node T)) where
    pub linked_turned : IsLinked head heads (p ∷ rest) order cells → IsLinked head heads (rest ++ p ∷ []) order cells
    linked_turned linked = record {
      channel = linked.channel;
      apart = subst (λ l. IsDistinct same_place l) (sym (at_front head heads order (rest ++ p ∷ [])))
          (apart_turned ((head ∷ heads) ++ order) rest p (subst (λ l. IsDistinct same_place l) (at_front head heads order (p ∷ rest)) linked.apart));
      held = linked.held;
      there = all_turned (λ q. IsSome (value_at q cells)) p rest linked.there;
      head_room = linked.head_room;
      order_room = linked.order_room;
      free_room = λ q i. linked.free_room q (in_either q rest p i);
    }

    pub linked_back : IsLinked head heads (rest ++ p ∷ []) order cells → IsLinked head heads (p ∷ rest) order cells
    linked_back linked = record {
      channel = linked.channel;
      apart = subst (λ l. IsDistinct same_place l) (sym (at_front head heads order (p ∷ rest)))
          (apart_back ((head ∷ heads) ++ order) rest p (subst (λ l. IsDistinct same_place l) (at_front head heads order (rest ++ p ∷ [])) linked.apart));
      held = linked.held;
      there = all_back (λ q. IsSome (value_at q cells)) rest p linked.there;
      head_room = linked.head_room;
      order_room = linked.order_room;
      free_room = λ q i. linked.free_room q (in_turned q rest p i);
    }

    -- the first is none of those behind it
    pub first_alone : IsLinked head heads (p ∷ rest) order cells → IsFree p (((head ∷ heads) ++ order) ++ rest)
    first_alone linked = others_free ((head ∷ heads) ++ order) p rest (subst (λ l. IsDistinct same_place l) (at_front head heads order (p ∷ rest)) linked.apart)

    pub first_apart : IsLinked head heads (p ∷ rest) order cells → (q : ℕ) → IsIn q rest → same_place p q ≡ false
    first_apart linked q i = free_at p rest q (free_right p ((head ∷ heads) ++ order) rest (first_alone linked)) i

  -- free nodes are none of the others
  pub free_apart : (head : ℕ) (heads free order : List ℕ) (cells : List (Node T)) → IsLinked head heads free order cells →
      (a q : ℕ) → IsIn a (head ∷ order) → IsIn q free → same_place a q ≡ false
  free_apart head heads free order cells linked a q i j =
      apart_parts ((head ∷ heads) ++ order) free a q (subst (λ l. IsDistinct same_place l) (at_front head heads order free) linked.apart) (elim i [
        | inl e ↦ inl e
        | inr k ↦ inr (in_right heads order a k)
      ]) j

  -- 3. They are the same where each names the same next
  pub free_same : (old new : List (Node T)) (p n : ℕ) → ((q : ℕ) → IsIn q (free_of p n old) → next_of Due new q ≡ next_of Due old q) →
      free_of p n new ≡ free_of p n old
  free_same old new p zero h = refl
  free_same old new p (suc n) h =
      ap (λ q. p ∷ chain (next_of Due new) q n) (h p (inl refl)) ∙ ap (λ l. p ∷ l) (free_same old new (next_of Due old p) n (λ q i. h q (inr i)))

  -- an item and the neighbours on a channel don't change a node's next
  pub next_entered : (first p : ℕ) (x : Item T) (cells : List (Node T)) (q : ℕ) → next_of Due (entered first p x cells) q ≡ next_of Due cells q
  next_entered first p x cells q =
      let one = with_item p (Some x) cells in
      link_leaves Channel (next_in Due) (λ link node. ap (λ (l : Link). l.next.index) (link_unlike Channel Due channel_due link node)) p
      (prev_of Channel one first) q one
      ∙ keeps (next_in Due) p q (λ (node : Node T). record node { item = Some x }) cells (item_next Due (Some x))

  pub next_left : (p : ℕ) (cells : List (Node T)) (q : ℕ) → next_of Due (left p cells) q ≡ next_of Due cells q
  next_left p cells q =
      keeps (next_in Due) p q (λ (node : Node T). record node { item = None }) (unlink Channel p cells) (item_next Due None)
      ∙ unlink_leaves Channel (next_in Due) (λ link node. ap (λ (l : Link). l.next.index) (link_unlike Channel Due channel_due link node)) p q cells

  -- nor do links of other nodes
  pub next_linked : (p a : ℕ) (cells : List (Node T)) (q : ℕ) → same_place p q ≡ false → same_place a q ≡ false →
      next_of Due (link_behind Due p a cells) q ≡ next_of Due cells q
  next_linked p a cells q f g =
      let b = next_of Due cells a in
      let one = set_next Due p b cells in let two = set_prev Due p a one in let three = set_next Due a p two in
      next_past Due b p q three ∙ next_else Due a p q two g ∙ next_past Due p a q one ∙ next_else Due p b q cells f

  pub next_unlinked : (p : ℕ) (cells : List (Node T)) (q : ℕ) → same_place (prev_of Due cells p) q ≡ false →
      next_of Due (unlink Due p cells) q ≡ next_of Due cells q
  next_unlinked p cells q f =
      let a = prev_of Due cells p in let b = next_of Due cells p in
      next_past Due b a q (set_next Due a b cells) ∙ next_else Due a b q cells f

  -- 4. A node comes to be the first
  module _ (p f : ℕ) (cells : List (Node T)) where
    abbrev pub new : List (Node T)
    new = set_next Due p f cells

    ring_past : (other : Pair) → Unlike Due other → (s : ℕ) (ps : List ℕ) → IsRing other cells s ps → IsRing other new s ps
    ring_past other u =
        ring_same cells new (λ q h. next_stays Due p f q cells new refl h) other
        (λ q h. set_next_leaves Due (next_in other) (λ link node. ap (λ (l : Link). l.next.index) (link_unlike Due other u link node)) p f q cells)
        (λ q h. set_next_leaves Due (prev_in other) (λ link node. ap (λ (l : Link). l.prev.index) (link_unlike Due other u link node)) p f q cells)

    pub alike_freed : Alike cells new
    alike_freed = record {
      stay = λ q h. next_stays Due p f q cells new refl h;
      items = λ q. set_next_leaves Due item_in (item_kept Due) p f q cells;
      rooms = λ q. set_next_leaves Due room_in (room_kept Due) p f q cells;
      channel = ring_past Channel due_channel;
    }

    module _ (head : ℕ) (heads free order : List ℕ) (linked : IsLinked head heads (free ++ p ∷ []) order cells) where
      p_there : IsSome (value_at p cells)
      p_there = all_in (λ q. IsSome (value_at q cells)) (free ++ p ∷ []) p linked.there (in_turned p free p (inl refl))

      turned : IsLinked head heads (p ∷ free) order cells
      turned = linked_back head heads free order p cells linked

      pub freed_chain : (n : ℕ) → free_of f n cells ≡ free → free_of p (suc n) new ≡ p ∷ free
      freed_chain n e =
          ap (λ q. p ∷ chain (next_of Due new) q n) (next_at Due p f cells p_there)
          ∙ ap (λ l. p ∷ l) (free_same cells new f n (λ q i. next_else Due p f q cells
          (first_apart head heads free order p cells turned q (subst (λ l. IsIn q l) e i))) ∙ e)

      -- the ring by due tick stays as it is
      pub freed_by_due : (dues : List ℕ) (ticks : List Tick) → IsByDue head order dues ticks cells → IsByDue head order dues ticks new
      freed_by_due dues ticks due =
          by_due_same head order dues ticks cells new due (record {
            apart = due.ring.apart;
            there = every (λ q. IsSome (value_at q new)) (head ∷ dues)
                (λ q i. alike_freed.stay q (all_in (λ r. IsSome (value_at r cells)) (head ∷ dues) q due.ring.there i));
            round = same_neighbours (next_of Due cells) (prev_of Due cells) (next_of Due new) (prev_of Due new) (head ∷ dues) (dues ++ head ∷ [])
                (every (λ q. next_of Due new q ≡ next_of Due cells q) (head ∷ dues) (λ q i. next_else Due p f q cells (unlike_it q i)))
                (every (λ q. prev_of Due new q ≡ prev_of Due cells q) (dues ++ head ∷ []) (λ q i. prev_past Due p f q cells)) due.ring.round;
          }) (alike_freed.items head ∙ due.vacant) (λ q i. alike_freed.items q)
        where
          every : (P : ℕ → Type 0) (xs : List ℕ) → ((q : ℕ) → IsIn q xs → P q) → AllByRecursion P xs
          every P [] h = tt
          every P (x ∷ xs) h = (h x (inl refl), every P xs (λ q i. h q (inr i)))

          unlike_it : (q : ℕ) → IsIn q (head ∷ dues) → same_place p q ≡ false
          unlike_it q i =
              free_at p ((head ∷ heads) ++ order) q (free_left p ((head ∷ heads) ++ order) free (first_alone head heads free order p cells turned)) (elim i [
                | inl e ↦ inl e
                | inr k ↦ inr (in_right heads order q (due.flies q k))
              ])
