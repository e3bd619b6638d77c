-- A whole pool gives an item out, and its node is free.
use Rattle.std.proofs.Common.{◌≡◌, ◌<◌, ◌+◌, ◌-◌, ℕ, zero, suc, true, false, Bool, cond, List, [], ◌∷◌, ◌++◌, length, Option, Some, None, IsSome, inl, inr}
use Rattle.std.proofs.Common.{refl, sym, ap, ◌∙◌, subst, arith}
use Rattle.std.proofs.Common.{length-append, get_or, eq-eqb}
use Rattle.std.specs.Prelude.{◌≤◌, ◌==◌, not, slice_get, slice_set}
use Rattle.std.specs.List.{All, IsDistinct}
use Rattle.std.proofs.lemmas.Option.{same_Some}
use Rattle.std.proofs.lemmas.List.Elements.{All-filter}
use Rattle.mn_flight.specs.declared.Item.{Item}
use Rattle.mn_flight.specs.Flying.{without}
use Rattle.mn_flight.proofs.Members as members
use Rattle.mn_flight_pool.specs.Cells.{same_place}
use Rattle.mn_flight_pool.specs.Rings.{IsIn, IsRing, HaveRoom, item_at, room_at, next_of, prev_of, set_next, unlink}
use Rattle.mn_flight_pool.specs.ByDue.{IsByDue, ticks_left}
use Rattle.mn_flight_pool.specs.Pool.{is_on, items_in, nodes_on, dues_of, order_of, free_of, trace, left, IsHeld, IsLinked}
use Rattle.mn_flight_pool.specs.Whole.{order_in, free_in, items_of, IsWhole, IsCounted}
use Rattle.mn_flight_pool.specs.declared.pool.Pool.{Pool}
use Rattle.mn_flight_pool.specs.declared.free.Free.{Free}
use Rattle.mn_flight_pool.specs.declared.tick.Tick.{Tick}
use Rattle.mn_flight_pool.specs.Nodes.{Node, firsts}
use Rattle.mn_flight_pool.specs.declared.node.Pair.TheVariants.{Channel, Due}
use Rattle.mn_flight_pool.proofs.Finger.{kept_before, distinct_nodes}
use Rattle.mn_flight_pool.proofs.Left.{linked_left, nodes_before, nodes_then}
use Rattle.mn_flight.specs.Flying.{IsFlight}
use Rattle.mn_flight_pool.proofs.Held.{flight_left, items_without}
use Rattle.mn_flight_pool.proofs.Linked.{order_apart}
use Rattle.mn_flight_pool.proofs.Sorted.{ascend_of, order_is}
use Rattle.mn_flight_pool.proofs.PastDue.{alike_unlink, linked_alike, nodes_alike, items_alike}
use Rattle.mn_flight_pool.proofs.Counted.{counted_left, counted_alike, some_counted}
use Rattle.mn_flight_pool.proofs.DueLeft as dues
use Rattle.mn_flight_pool.proofs.Items.{item_member}
use Rattle.mn_flight_pool.proofs.FreeNodes.{free_apart, free_same, next_left, next_unlinked}
use Rattle.mn_flight_pool.proofs.Freed.{held_freed, items_freed, nodes_freed, counted_freed, by_due_freed}
use Rattle.mn_flight_pool.proofs.Walks.{ring_prev}
use Rattle.mn_flight_pool.proofs.Rings.{room_past_item, room_past_unlink}
use Rattle.mn_flight_pool.proofs.Sides as sides
use Rattle.mn_flight_pool.proofs.Sooner.{in_cut}
use Rattle.mn_flight_pool.proofs.Traces.{trace_ring}
use Rattle.mn_flight_pool.proofs.Firsts.{firsts_length}
use Rattle.mn_flight_pool.proofs.Whole.{rooms, order_length, flight}

some_at : (xs : List ℕ) (c : ℕ) → c < length xs → (f : ℕ) × (slice_get xs c ≡ Some f)
some_at [] c h = absurd (omega (arith, h))
some_at (x ∷ xs) zero h = (x, refl)
some_at (x ∷ xs) (suc c) h = some_at xs c (omega (arith, h))

module _ {T : Type 0} (pool : Pool T) (whole : IsWhole pool) (p : ℕ) (i : IsIn p (order_in pool)) where
  abbrev head : ℕ
  head = pool.head.index

  abbrev heads : List ℕ
  heads = firsts pool.channels

  abbrev free : List ℕ
  free = free_in pool

  abbrev n : ℕ
  n = pool.count - 1

  pub some_count : 0 < pool.count
  some_count = omega (arith, order_length pool whole, many (order_in pool) i)
    where
      many : (ps : List ℕ) → IsIn p ps → 0 < length ps
      many [] j = absurd j
      many (q ∷ qs) j = omega arith

  cut : (us : List ℕ) × (vs : List ℕ) × (order_in pool ≡ us ++ p ∷ vs)
  cut = in_cut p (order_in pool) i

  abbrev us : List ℕ
  us = cut.0

  abbrev vs : List ℕ
  vs = cut.1

  linked : IsLinked head heads free (us ++ p ∷ vs) pool.store
  linked = subst (λ l. IsLinked head heads free l pool.store) cut.2 whole.held.linked

  abbrev old_dues : List ℕ
  old_dues = dues_of head pool.count pool.store

  due : IsByDue head (us ++ p ∷ vs) old_dues pool.ticks.items pool.store
  due = subst (λ l. IsByDue head l old_dues pool.ticks.items pool.store) cut.2 whole.by_due

  due_ring : (fs : List ℕ) × (bs : List ℕ) × IsRing Due pool.store head (fs ++ p ∷ bs)
  due_ring = let c = in_cut p old_dues (whole.by_due.stands p i) in (c.0, c.1, subst (λ l. IsRing Due pool.store head l) c.2 whole.by_due.ring)

  due_rooms : HaveRoom pool.store (head ∷ (due_ring.0 ++ p ∷ due_ring.1))
  unfolding due_ring
  due_rooms =
      subst (λ l. HaveRoom pool.store (head ∷ l)) (in_cut p old_dues (whole.by_due.stands p i)).2 (λ q j. elim j [
        | inl e ↦ rooms pool whole q (inl e)
        | inr k ↦ rooms pool whole q (inr (whole.by_due.flies q k))
      ])

  prev_in : IsIn (prev_of Due pool.store p) (head ∷ order_in pool)
  prev_in =
      elim (ring_prev Due pool.store head old_dues whole.by_due.ring p (inr (whole.by_due.stands p i))) [
        | inl e ↦ inl e
        | inr j ↦ inr (whole.by_due.flies (prev_of Due pool.store p) j)
      ]

  pub node_room : room_at pool.store p ≡ true
  node_room = whole.held.linked.order_room p i

  pub next_there : room_at pool.store (next_of Due pool.store p) ≡ true
  next_there = let r = due_ring in sides.next_room Due pool.store head r.0 p r.1 r.2 due_rooms

  pub prev_there : room_at pool.store (prev_of Due pool.store p) ≡ true
  prev_there = let r = due_ring in sides.prev_room Due pool.store head r.0 p r.1 r.2 due_rooms

  pub no_item : (o : Option (Item T)) → None ≡ o → IsSome o → ⊥
  no_item None e h = cc
  no_item (Some y) e h = cc

  -- the item that is read and the one that is taken are one
  pub same_item : (one : List (Node T)) → one ≡ unlink Due p pool.store → (x y : Item T) → Some x ≡ item_at pool.store p → Some y ≡ item_at one p →
      (item_at pool.store p ≡ Some y) × (x ≡ y)
  same_item one e x y f h =
      let there : item_at pool.store p ≡ Some y = sym (h ∙ ap (λ c. item_at c p) e ∙ (alike_unlink p pool.store).items p) in
      (there, same_Some x y (f ∙ there))

  pub room_one : (one : List (Node T)) → one ≡ unlink Due p pool.store → room_at one p ≡ true
  room_one one e = ap (λ c. room_at c p) e ∙ (alike_unlink p pool.store).rooms p ∙ whole.held.linked.order_room p i

  pub room_two : (one : List (Node T)) → one ≡ unlink Due p pool.store → (two : List (Node T)) → two ≡ left p one → room_at two p ≡ true
  room_two one e two f =
      ap (λ c. room_at c p) f ∙ room_past_item p p None (unlink Channel p one) ∙ room_past_unlink Channel p p one ∙ room_one one e

  module _ (x : Item T) (holds : item_at pool.store p ≡ Some x) where
    pub below : x.channel < pool.channels
    below =
        let at = members.contains_of_in (items_of pool) x (item_member pool.store (order_in pool) p x i holds) in
        subst (λ (z : Item T). z.channel < pool.channels) at.2 ((flight pool whole).on_channels at.0 x at.1)

    first_at : (f : ℕ) × (slice_get heads x.channel ≡ Some f)
    first_at = some_at heads x.channel (omega (arith, below, firsts_length pool.channels))

    abbrev first : ℕ
    first = first_at.0

    abbrev mid : List (Node T)
    mid = unlink Due p pool.store

    holds_mid : item_at mid p ≡ Some x
    holds_mid = (alike_unlink p pool.store).items p ∙ holds

    linked_mid : IsLinked head heads free (us ++ p ∷ vs) mid
    linked_mid = linked_alike pool.store mid (alike_unlink p pool.store) head heads free (us ++ p ∷ vs) linked

    items_mid : items_in mid (us ++ p ∷ vs) ≡ items_of pool
    items_mid = items_alike pool.store mid (alike_unlink p pool.store) (us ++ p ∷ vs) ∙ ap (λ o. items_in pool.store o) (sym cut.2)

    flight_mid : IsFlight (length heads) (items_in mid (us ++ p ∷ vs))
    flight_mid = subst (λ xs. IsFlight (length heads) xs) (sym items_mid) whole.held.flight

    counted_mid : IsCounted pool.counts.items pool.channels (us ++ p ∷ vs) mid
    counted_mid =
        counted_alike pool.counts.items pool.channels (us ++ p ∷ vs) pool.store mid (alike_unlink p pool.store)
        (subst (λ l. IsCounted pool.counts.items pool.channels l pool.store) cut.2 whole.counted)

    pub some_on : 0 < get_or pool.counts.items x.channel 0
    some_on = some_counted head heads free us p vs mid linked_mid x first holds_mid first_at.1 pool.counts.items pool.channels counted_mid below

    own : nodes_on mid x.channel (us ++ p ∷ vs) ≡ nodes_on mid x.channel us ++ p ∷ nodes_on mid x.channel vs
    own =
        nodes_before head heads free us p vs mid linked_mid x first holds_mid first_at.1 x.channel
        ∙ ap (λ b. nodes_on mid x.channel us ++ cond b (p ∷ nodes_on mid x.channel vs) (nodes_on mid x.channel vs)) (eq-eqb x.channel x.channel refl)

    module _ (one : List (Node T)) (one_is : one ≡ mid) where
      pub channel_ring : (s : ℕ) × (fs : List ℕ) × (bs : List ℕ) × IsRing Channel one s (fs ++ p ∷ bs)
      channel_ring = (
        first,
        nodes_on mid x.channel us,
        nodes_on mid x.channel vs,
        subst (λ c. IsRing Channel c first (nodes_on mid x.channel us ++ p ∷ nodes_on mid x.channel vs)) (sym one_is)
            (subst (λ l. IsRing Channel mid first l) own (linked_mid.channel x.channel first first_at.1)),
      )

      pub item_one : item_at one p ≡ Some x
      item_one = ap (λ c. item_at c p) one_is ∙ holds_mid

      module _ (two : List (Node T)) (two_is : two ≡ left p one) where
        is : two ≡ left p mid
        is = two_is ∙ ap (λ c. left p c) one_is

        abbrev dues_then : List ℕ
        dues_then = dues.then head heads free us p vs pool.store linked x holds old_dues pool.ticks.items due

        abbrev ticks_then : List Tick
        ticks_then =
            ticks_left x.due (prev_of Due pool.store p) (item_at pool.store (prev_of Due pool.store p))
            (item_at pool.store (next_of Due pool.store p)) pool.ticks.items

        left_due : IsByDue head (us ++ vs) dues_then ticks_then (left p mid)
        left_due = dues.due_left head heads free us p vs pool.store linked x holds old_dues pool.ticks.items due

        dues_two : dues_of head n (left p mid) ≡ dues_then
        dues_two =
            let many : length dues_then ≡ n =
            omega (arith, left_due.many, order_length pool whole, ap length cut.2, length-append us vs, length-append us (p ∷ vs)) in
            ap (λ m. trace (next_of Due (left p mid)) head m) (sym many) ∙ trace_ring Due (left p mid) head dues_then left_due.ring

        linked_then : IsLinked head heads (free ++ p ∷ []) (us ++ vs) (left p mid)
        linked_then = linked_left head heads free us p vs mid linked_mid x first holds_mid first_at.1

        flight_then : IsFlight (length heads) (items_in (left p mid) (us ++ vs))
        flight_then = flight_left head heads free us p vs mid linked_mid flight_mid x first holds_mid first_at.1

        order_two : order_of head n (left p mid) ≡ us ++ vs
        order_two =
            order_is (left p mid) head n (us ++ vs) dues_then ticks_then left_due dues_two
            (ascend_of (left p mid) (us ++ vs) linked_then.held flight_then.ascending)

        held_two : IsHeld head heads (free ++ p ∷ []) n two
        held_two =
            subst (λ c. IsHeld head heads (free ++ p ∷ []) n c) (sym is)
            (record {
              linked = subst (λ o. IsLinked head heads (free ++ p ∷ []) o (left p mid)) (sym order_two) linked_then;
              flight = subst (λ o. IsFlight (length heads) (items_in (left p mid) o)) (sym order_two) flight_then;
            })

        -- no free node was a neighbour of the one that left
        free_two : free_of pool.free.first.index pool.free.count two ≡ free
        free_two =
            ap (λ c. free_of pool.free.first.index pool.free.count c) is
            ∙ free_same pool.store (left p mid) pool.free.first.index pool.free.count (λ q j.
            next_left p mid q
            ∙ next_unlinked p pool.store q (free_apart head heads free (order_in pool) pool.store whole.held.linked (prev_of Due pool.store p) q prev_in j))

        items_two : items_in two (order_of head n two) ≡ without (Some x) (items_of pool)
        items_two =
            subst (λ c. items_in c (order_of head n c) ≡ without (Some x) (items_of pool)) (sym is)
            (ap (λ o. items_in (left p mid) o) order_two ∙ items_without head heads free us p vs mid linked_mid flight_mid x first holds_mid first_at.1
            ∙ ap (λ l. without (Some x) l) items_mid)

        before_two : (c m k q : ℕ) → slice_get (nodes_on pool.store c (order_in pool)) m ≡ Some p →
            slice_get (nodes_on pool.store c (order_in pool)) k ≡ Some q → k < m → slice_get (nodes_on two c (order_of head n two)) k ≡ Some q
        before_two c m k q e f h = ap (λ z. slice_get (nodes_on z c (order_of head n z)) k) is ∙ ap (λ l. slice_get l k) nodes_two
            ∙ by (x.channel == c) nodes_old
          where
            nodes_two : nodes_on (left p mid) c (order_of head n (left p mid)) ≡ nodes_on pool.store c us ++ nodes_on pool.store c vs
            nodes_two =
                ap (λ o. nodes_on (left p mid) c o) order_two ∙ nodes_then head heads free us p vs mid linked_mid x first holds_mid first_at.1 c
                ∙ ap (λ l. l ++ nodes_on mid c vs) (nodes_alike pool.store mid (alike_unlink p pool.store) c us)
                ∙ ap (λ l. nodes_on pool.store c us ++ l) (nodes_alike pool.store mid (alike_unlink p pool.store) c vs)

            nodes_old : nodes_on pool.store c (order_in pool) ≡
                nodes_on pool.store c us ++ cond (x.channel == c) (p ∷ nodes_on pool.store c vs) (nodes_on pool.store c vs)
            nodes_old = ap (λ o. nodes_on pool.store c o) cut.2 ∙ nodes_before head heads free us p vs pool.store linked x first holds first_at.1 c

            distinct : IsDistinct same_place (nodes_on pool.store c (order_in pool))
            distinct = distinct_nodes (λ r. is_on c (item_at pool.store r)) head (order_in pool)
                (order_apart head heads free (order_in pool) pool.store whole.held.linked)

            by : (b : Bool) → nodes_on pool.store c (order_in pool) ≡ nodes_on pool.store c us ++ cond b (p ∷ nodes_on pool.store c vs)
                (nodes_on pool.store c vs) →
                slice_get (nodes_on pool.store c us ++ nodes_on pool.store c vs) k ≡ Some q
            by true old =
                kept_before (nodes_on pool.store c us) (nodes_on pool.store c vs) p m k q (subst (λ l. IsDistinct same_place l) old distinct)
                (ap (λ l. slice_get l m) (sym old) ∙ e) (ap (λ l. slice_get l k) (sym old) ∙ f) h
            by false old = ap (λ l. slice_get l k) (sym old) ∙ f

        counted_two : (counts : List ℕ) → counts ≡ slice_set pool.counts.items x.channel (get_or pool.counts.items x.channel 0 - 1) →
            IsCounted counts pool.channels (order_of head n two) two
        counted_two counts e =
            subst (λ c. IsCounted counts pool.channels (order_of head n c) c) (sym is)
            (subst (λ o. IsCounted counts pool.channels o (left p mid)) (sym order_two)
            (subst (λ l. IsCounted l pool.channels (us ++ vs) (left p mid)) (sym e)
            (counted_left head heads free us p vs mid linked_mid x first holds_mid first_at.1 pool.counts.items pool.channels counted_mid below)))

        due_two : IsByDue head (order_of head n two) (dues_of head n two) ticks_then two
        due_two =
            subst (λ c. IsByDue head (order_of head n c) (dues_of head n c) ticks_then c) (sym is)
            (subst (λ o. IsByDue head o (dues_of head n (left p mid)) ticks_then (left p mid)) (sym order_two)
            (subst (λ d. IsByDue head (us ++ vs) d ticks_then (left p mid)) (sym dues_two) left_due))

        -- the node is the first of the free ones
        module _ (three : List (Node T)) (three_is : three ≡ set_next Due p pool.free.first.index two) where
          pub take_held : (frees : Free) → frees.first.index ≡ p → frees.count ≡ pool.free.count + 1 →
              IsHeld head heads (free_of frees.first.index frees.count three) n three
          take_held frees f m =
              let more : frees.count ≡ suc pool.free.count = omega (arith, m) in
              subst (λ l. IsHeld head heads l n three) (λ i. free_of (sym f i) (sym more i) three)
              (held_freed head heads free n p pool.free.first.index ticks_then two held_two due_two three three_is pool.free.count free_two)

          pub take_items : items_in three (order_of head n three) ≡ without (Some x) (items_of pool)
          take_items = items_freed head heads free n p pool.free.first.index ticks_then two held_two due_two three three_is ∙ items_two

          -- and of those left none has a greater number than the last put
          pub take_latest : All (λ (e : Item T). e.number ≤ pool.latest) (items_in three (order_of head n three))
          take_latest =
              subst (λ xs. All (λ (e : Item T). e.number ≤ pool.latest) xs) (sym take_items)
              (All-filter (λ (other : Item T). not (other.number == x.number)) (λ (e : Item T). e.number ≤ pool.latest) (items_of pool) whole.latest)

          -- what stands before it on a channel stays at its place
          pub take_before : (c m k q : ℕ) → slice_get (nodes_on pool.store c (order_in pool)) m ≡ Some p →
              slice_get (nodes_on pool.store c (order_in pool)) k ≡ Some q → k < m → slice_get (nodes_on three c (order_of head n three)) k ≡ Some q
          take_before c m k q e f h =
              ap (λ l. slice_get l k) (nodes_freed head heads free n p pool.free.first.index ticks_then two held_two due_two three three_is c)
              ∙ before_two c m k q e f h

          pub take_counted : (counts : List ℕ) → counts ≡ slice_set pool.counts.items x.channel (get_or pool.counts.items x.channel 0 - 1) →
              IsCounted counts pool.channels (order_of head n three) three
          take_counted counts e =
              counted_freed head heads free n p pool.free.first.index ticks_then two held_two due_two three three_is counts pool.channels (counted_two counts e)

          pub take_by_due : (ticks : List Tick) → ticks ≡ ticks_then → IsByDue head (order_of head n three) (dues_of head n three) ticks three
          take_by_due ticks e =
              subst (λ l. IsByDue head (order_of head n three) (dues_of head n three) l three) (sym e)
              (by_due_freed head heads free n p pool.free.first.index ticks_then two held_two due_two three three_is)
