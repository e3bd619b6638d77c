-- What a whole pool says of its nodes and items.
use Rattle.std.proofs.Common.{◌≡◌, ◌<◌, ◌≤◌, ◌+◌, ◌-◌, ℕ, zero, suc, true, List, [], ◌∷◌, ◌++◌, length, Option, Some, None, IsSome, inl, inr, refl, sym, ap}
use Rattle.std.proofs.Common.{◌∙◌}
use Rattle.std.proofs.Common.{subst, arith, length-append, append-nil, get_or}
use Rattle.std.specs.Prelude.{slice_get, slice_index_or}
use Rattle.std.specs.List.{AllByRecursion}
use Rattle.mn_flight.specs.declared.Item.{Item}
use Rattle.mn_flight.specs.Flying.{IsFlight, on_channel}
use Rattle.mn_flight.specs.Earliest.{earliest}
use Rattle.mn_flight_pool.specs.Cells.{value_at}
use Rattle.mn_flight_pool.specs.Rings.{IsIn, IsRing, HaveRoom, item_at, room_at, next_of, prev_of}
use Rattle.mn_flight_pool.specs.Pool.{dues_of, nodes_on, steps_of}
use Rattle.mn_flight_pool.specs.Whole.{AreLast, ptrs, order_in, free_in, items_of, IsPlaced, IsWhole}
use Rattle.mn_flight_pool.specs.declared.pool.Pool.{Pool}
use Rattle.mn_flight_pool.specs.declared.node.Place.{Place}
use Rattle.mn_flight_pool.specs.declared.node.Pair.TheVariants.{Channel, Due}
use Rattle.mn_flight_pool.specs.Nodes.{firsts}
use Rattle.mn_flight_pool.proofs.Linked.{order_there}
use Rattle.mn_flight_pool.proofs.Neighbours.{in_at}
use Rattle.mn_flight_pool.proofs.Sorted.{Ascend, ascend_of}
use Rattle.mn_flight_pool.proofs.Nodes.{below}
use Rattle.mn_flight_pool.proofs.Entered.{from_filter}
use Rattle.mn_flight_pool.proofs.Firsts.{firsts_length, first_at}
use Rattle.mn_flight_pool.proofs.Held.{length-trace}
use Rattle.mn_flight_pool.proofs.Sooner.{all_in}
use Rattle.mn_flight_pool.proofs.Walks.{forth_at, back_at}
use Rattle.mn_flight_pool.proofs.Items.{place_cut, at_cut, items_on, items_length, item_placed, held_on, none_on}
use Rattle.mn_flight_pool.proofs.Soonest.{p_in, earliest_first, earliest_none}

pub ptrs_length : (ps : List Place) → length (ptrs ps) ≡ length ps
ptrs_length [] = refl
ptrs_length (p ∷ ps) = ap suc (ptrs_length ps)

-- a place that was read
pub head_at : (ps : List Place) (c : ℕ) (f : Place) → c < length ps → f ≡ slice_index_or ps c f → slice_get (ptrs ps) c ≡ Some f.index
head_at [] c f h e = absurd (omega (arith, h))
head_at (p ∷ ps) zero f h e = ap (λ (q : Place). Some q.index) (sym e)
head_at (p ∷ ps) (suc c) f h e = head_at ps c f (omega (arith, h)) e

-- no node is the last of any order
pub none_last : (order : List ℕ) (late : List Place) → late ≡ [] → AreLast order (ptrs late)
none_last order late e = record { front = order; cut = sym (ap (λ l. order ++ ptrs l) e ∙ append-nil order) }

module _ {T : Type 0} (pool : Pool T) (whole : IsWhole pool) where
  pub order_length : length (order_in pool) ≡ pool.count
  order_length = sym whole.by_due.many ∙ length-trace (next_of Due pool.store) pool.head.index pool.count

  pub held_order : AllByRecursion (λ p. IsSome (item_at pool.store p)) (order_in pool)
  held_order = whole.held.linked.held

  pub flight : IsFlight pool.channels (items_of pool)
  flight = subst (λ n. IsFlight n (items_of pool)) (firsts_length pool.channels) whole.held.flight

  -- the numbers of the nodes' items ascend
  pub ascends : Ascend pool.store (order_in pool)
  ascends = ascend_of pool.store (order_in pool) held_order flight.ascending

  pub items_count : length (items_of pool) ≡ pool.count
  items_count = items_length pool.store (order_in pool) held_order ∙ order_length

  pub node_there : (p : ℕ) → IsIn p (order_in pool) → IsSome (value_at p pool.store)
  node_there p i = order_there pool.head.index (firsts pool.channels) (free_in pool) (order_in pool) pool.store whole.held.linked p i

  pub node_holds : (p : ℕ) → IsIn p (order_in pool) → IsSome (item_at pool.store p)
  node_holds p i = all_in (λ q. IsSome (item_at pool.store q)) (order_in pool) p held_order i

  -- the ring's first node and those with items have room for one
  pub rooms : HaveRoom pool.store (pool.head.index ∷ order_in pool)
  rooms p i = elim i [
    | inl e ↦ subst (λ q. room_at pool.store q ≡ true) (sym e) whole.held.linked.head_room
    | inr j ↦ whole.held.linked.order_room p j
  ]

  -- 1. Channels
  pub on_length : (c : ℕ) → length (on_channel c (items_of pool)) ≡ length (nodes_on pool.store c (order_in pool))
  on_length c =
      ap length (sym (items_on pool.store c (order_in pool)))
      ∙ items_length pool.store (nodes_on pool.store c (order_in pool)) (held_on pool.store c (order_in pool) held_order)

  pub count_there : (c n : ℕ) → c < length pool.counts.items → n ≡ get_or pool.counts.items c 0 → n ≡ length (on_channel c (items_of pool))
  count_there c n h e = e ∙ whole.counted.each c (omega (arith, h, whole.counted.many)) ∙ sym (on_length c)

  pub count_none : (c : ℕ) → length pool.counts.items ≤ c → 0 ≡ length (on_channel c (items_of pool))
  count_none c h = sym (none_on pool.channels c (items_of pool) flight (omega (arith, h, whole.counted.many)))

  -- the node at a place of its channel
  pub placed : (c n : ℕ) (p : ℕ) → IsPlaced pool c n p →
      IsIn p (order_in pool) × (item_at pool.store p ≡ slice_get (on_channel c (items_of pool)) n) × IsPlaced pool c n p
  placed c n p e =
      let nodes = nodes_on pool.store c (order_in pool) in (
        (from_filter _ p (order_in pool) (in_at nodes n p e)).1,
        sym (item_placed pool.store nodes n p (held_on pool.store c (order_in pool) held_order) e)
            ∙ ap (λ l. slice_get l n) (items_on pool.store c (order_in pool)),
        e,
      )

  module _ (c : ℕ) (f : Place) (below : c < pool.channels) (read : f.index ≡ c) where
    pub channel_ring : IsRing Channel pool.store f.index (nodes_on pool.store c (order_in pool))
    channel_ring = whole.held.linked.channel c f.index (first_at pool.channels c below ∙ ap (λ p. Some p) (sym read))

    pub forth_placed : (n : ℕ) (p : ℕ) → p ≡ steps_of (next_of Channel pool.store) f.index (n + 1) → n < length (on_channel c (items_of pool)) →
        IsIn p (order_in pool) × (item_at pool.store p ≡ slice_get (on_channel c (items_of pool)) n) × IsPlaced pool c n p
    forth_placed n p e h =
        let below : n < length (nodes_on pool.store c (order_in pool)) = omega (arith, h, on_length c) in
        let steps : n + 1 ≡ suc n = omega arith in
        placed c n p (forth_at Channel pool.store f.index (nodes_on pool.store c (order_in pool)) channel_ring n below
        ∙ ap (λ q. Some q) (sym (e ∙ ap (steps_of (next_of Channel pool.store) f.index) steps)))

    pub back_placed : (n count : ℕ) (p : ℕ) → p ≡ steps_of (prev_of Channel pool.store) f.index (count - n) →
        count ≡ length (on_channel c (items_of pool)) → n < count →
        IsIn p (order_in pool) × (item_at pool.store p ≡ slice_get (on_channel c (items_of pool)) n) × IsPlaced pool c n p
    back_placed n count p e m h =
        let nodes = nodes_on pool.store c (order_in pool) in
        let cut = place_cut n nodes (omega (arith, h, m, on_length c)) in
        let us = cut.0 in let q = cut.1 in let vs = cut.2 in
        let steps : count - n ≡ suc (length vs) = omega (arith, m, on_length c, cut.4, ap length cut.3, length-append us (q ∷ vs)) in
        let same : p ≡ q =
        e ∙ ap (steps_of (prev_of Channel pool.store) f.index) steps
        ∙ back_at Channel pool.store f.index vs us q (subst (λ l. IsRing Channel pool.store f.index l) cut.3 channel_ring) in
        placed c n p (ap (λ l. slice_get l n) cut.3 ∙ ap (λ k. slice_get (us ++ q ∷ vs) k) (sym cut.4) ∙ at_cut us q vs ∙ ap (λ r. Some r) (sym same))

  -- past the end of its channel there is none
  pub past_end : (c n : ℕ) → length (on_channel c (items_of pool)) ≤ n → slice_get (on_channel c (items_of pool)) n ≡ None
  past_end c n h = none (on_channel c (items_of pool)) n h
    where
      none : (ys : List (Item T)) (n : ℕ) → length ys ≤ n → slice_get ys n ≡ None
      none [] n h = refl
      none (y ∷ ys) zero h = absurd (omega (arith, h))
      none (y ∷ ys) (suc n) h = none ys n (omega (arith, h))

  -- a channel that has an item is there
  pub has_channel : (c n : ℕ) → n < length (on_channel c (items_of pool)) → c < pool.channels
  has_channel c n h = below c pool.channels (λ b. omega (arith, h, none_on pool.channels c (items_of pool) flight b))

  -- the first node of a channel that has an item there stands in the channel's ring
  pub in_its_ring : (c n : ℕ) → n < length (on_channel c (items_of pool)) → (s : ℕ) × (order : List ℕ) × IsRing Channel pool.store s order × IsIn c (s ∷ order)
  in_its_ring c n h = (c, nodes_on pool.store c (order_in pool), channel_ring c (record { index = c }) (has_channel c n h) refl, inl refl)

  pub no_channel : (c n : ℕ) → pool.channels ≤ c → slice_get (on_channel c (items_of pool)) n ≡ None
  no_channel c n h = past_end c n (omega (arith, none_on pool.channels c (items_of pool) flight h))

  -- 2. The earliest
  module _ (some : 0 < pool.count) (limit : ℕ) (node : ℕ) (is : node ≡ next_of Due pool.store pool.head.index) where
    many : 0 < length (order_in pool)
    many = omega (arith, some, order_length)

    pub first_there : IsSome (value_at node pool.store)
    first_there = subst (λ p. IsSome (value_at p pool.store)) (sym is) (at (dues_of pool.head.index pool.count pool.store) whole.by_due.ring)
      where
        at : (ps : List ℕ) → IsRing Due pool.store pool.head.index ps → IsSome (value_at (next_of Due pool.store pool.head.index) pool.store)
        at [] r = subst (λ p. IsSome (value_at p pool.store)) (sym r.round.0) r.there.0
        at (p ∷ ps) r = subst (λ q. IsSome (value_at q pool.store)) (sym r.round.0) r.there.1.0

    pub first_due : (x : Item T) → Some x ≡ item_at pool.store node → x.due ≤ limit →
        IsIn node (order_in pool) × (item_at pool.store node ≡ earliest limit (items_of pool))
    first_due x e h =
        let holds : item_at pool.store (next_of Due pool.store pool.head.index) ≡ Some x = ap (item_at pool.store) (sym is) ∙ sym e in
        let dues = dues_of pool.head.index pool.count pool.store in (
          subst (λ p. IsIn p (order_in pool)) (sym is)
              (p_in pool.head.index (order_in pool) pool.channels pool.ticks.items pool.store flight dues whole.by_due many limit x holds),
          sym e ∙ sym
              (earliest_first pool.head.index (order_in pool) pool.channels pool.ticks.items pool.store flight dues whole.by_due many limit x
              holds h),
        )

    pub later_due : (x : Item T) → Some x ≡ item_at pool.store node → limit < x.due → earliest limit (items_of pool) ≡ None
    later_due x e h =
        let holds : item_at pool.store (next_of Due pool.store pool.head.index) ≡ Some x = ap (item_at pool.store) (sym is) ∙ sym e in
        earliest_none pool.head.index (order_in pool) pool.channels pool.ticks.items pool.store flight
        (dues_of pool.head.index pool.count pool.store) whole.by_due many limit x holds h

    pub first_holds : None ≡ item_at pool.store node → ⊥
    first_holds e = at (dues_of pool.head.index pool.count pool.store) whole.by_due.ring whole.by_due.flies (omega (arith, many, whole.by_due.many))
      where
        at : (ps : List ℕ) → IsRing Due pool.store pool.head.index ps → ((q : ℕ) → IsIn q ps → IsIn q (order_in pool)) → 0 < length ps → ⊥
        at [] r f h = omega (arith, h)
        at (p ∷ ps) r f h = none (item_at pool.store p) (sym (e ∙ ap (item_at pool.store) (is ∙ r.round.0))) (node_holds p (f p (inl refl)))
          where
            none : (o : Option (Item T)) → o ≡ None → IsSome o → ⊥
            none None k s = cc
            none (Some y) k s = cc

  -- 3. The nodes put last
  last_of_order : (k : ℕ) (p : ℕ) → slice_get (ptrs pool.recent.items) k ≡ Some p → IsIn p (order_in pool)
  last_of_order k p e =
      subst (λ l. IsIn p l) (sym whole.recent.cut)
      (in_behind whole.recent.front (ptrs pool.recent.items) (in_at (ptrs pool.recent.items) k p e))
    where
      in_behind : (us vs : List ℕ) → IsIn p vs → IsIn p (us ++ vs)
      in_behind [] vs i = i
      in_behind (u ∷ us) vs i = inr (in_behind us vs i)

  pub recent_at : (k : ℕ) (p : Place) → k < length pool.recent.items → p ≡ slice_index_or pool.recent.items k p → IsIn p.index (order_in pool)
  recent_at k p h e = last_of_order k p.index (head_at pool.recent.items k p h e)

  -- they are no more than all
  pub recent_few : length pool.recent.items ≤ pool.count
  recent_few =
      omega (
        arith,
        ptrs_length pool.recent.items,
        order_length,
        ap length whole.recent.cut,
        length-append whole.recent.front (ptrs pool.recent.items),
      )
