-- A whole pool takes an item.
use Rattle.std.proofs.Common.{◌≡◌, ◌<◌, ◌≤◌, ◌+◌, ◌-◌, ℕ, zero, suc, true, List, [], ◌∷◌, ◌++◌, length, Option, Some, None, inl, inr, refl, sym, ap, ◌∙◌}
use Rattle.std.proofs.Common.{subst, arith, append_assoc, length-append, get_or}
use Rattle.std.specs.Prelude.{◌==◌, cond, MatchOption, ⊤, slice_get, slice_set}
use Rattle.std.specs.List.{All}
use Rattle.std.proofs.lemmas.List.{map-append}
use Rattle.std.proofs.lemmas.Grind.{common_steps}
use Rattle.mn_flight.specs.declared.Item.{Item}
use Rattle.mn_flight.proofs.Members as members
use Rattle.mn_flight_pool.specs.Rings.{IsIn, IsRing, item_at, room_at, next_of, link_behind}
use Rattle.mn_flight_pool.specs.Ticks.{last_by, put_tick}
use Rattle.mn_flight_pool.specs.ByDue.{IsByDue, IsTick}
use Rattle.mn_flight_pool.specs.Pool.{is_on, items_in, nodes_on, dues_of, order_of, free_of, trace, entered, IsLinked, IsHeld}
use Rattle.mn_flight_pool.specs.Whole.{AreLast, ptrs, order_in, free_in, items_of, IsWhole, IsCounted}
use Rattle.mn_flight_pool.specs.declared.pool.Pool.{Pool}
use Rattle.mn_flight_pool.specs.declared.free.Free.{Free}
use Rattle.mn_flight_pool.specs.declared.node.Place.{Place}
use Rattle.mn_flight_pool.specs.declared.tick.Tick.{Tick}
use Rattle.mn_flight_pool.specs.Nodes.{Node, firsts}
use Rattle.mn_flight_pool.specs.declared.node.Pair.TheVariants.{Channel, Due}
use Rattle.mn_flight_pool.proofs.Entered.{linked_entered, items_entered, room_two, nodes_then}
use Rattle.mn_flight_pool.proofs.Finger.{finger_kept, get_more}
use Rattle.mn_flight.specs.Flying.{IsFlight}
use Rattle.mn_flight.proofs.Kept.{flight_push}
use Rattle.mn_flight_pool.proofs.Sorted.{ascend_of, order_is}
use Rattle.mn_flight_pool.proofs.PastDue.{alike_link, linked_alike, nodes_alike, items_alike}
use Rattle.mn_flight_pool.proofs.Counted.{counted_entered, counted_alike}
use Rattle.mn_flight_pool.proofs.DueEntered.{due_entered, due_three, stand, then}
use Rattle.mn_flight_pool.proofs.Items.{item_member, fewer_kept}
use Rattle.mn_flight_pool.proofs.Sooner.{in_front, in_middle, tick_item, fewer, all_kept}
use Rattle.mn_flight_pool.proofs.FreeNodes.{linked_turned, first_apart, free_apart, free_same, next_entered, next_linked}
use Rattle.mn_flight_pool.proofs.Traces.{trace_ring}
use Rattle.mn_flight_pool.proofs.Walks.{ring_next}
use Rattle.mn_flight_pool.proofs.Firsts.{firsts_length, first_at}
use Rattle.mn_flight_pool.proofs.Whole.{rooms, order_length}

pub ptrs_push : (ps : List Place) (p : Place) → ptrs (ps ++ p ∷ []) ≡ ptrs ps ++ p.index ∷ []
ptrs_push ps p = map-append (λ (q : Place). q.index) ps (p ∷ [])

module _ {T : Type 0} (pool : Pool T) (whole : IsWhole pool) where
  -- there are no more ticks than items
  pub ticks_count : length pool.ticks.items ≤ pool.count
  ticks_count =
      let few =
      fewer due_at pool.ticks.items (order_in pool) whole.by_due.ascending
      (all_kept (IsTick pool.store (order_in pool)) (λ t. IsIn t.last.index (order_in pool) × (due_at t.last.index ≡ t.due)) pool.ticks.items
      (λ t is. let last = tick_item pool.store (order_in pool) t.due (item_at pool.store t.last.index) is.last in
      (is.there, ap due_of last.1 ∙ last.2)) whole.by_due.lasts) in
      omega (arith, few, order_length pool whole)
    where
      due_of : Option (Item T) → ℕ
      due_of None = 0
      due_of (Some x) = x.due

      due_at : ℕ → ℕ
      due_at p = due_of (item_at pool.store p)

  -- a count is no more than all
  pub count_within : (c : ℕ) → c < pool.channels → get_or pool.counts.items c 0 ≤ pool.count
  count_within c h = omega (arith, whole.counted.each c h, fewer_kept (λ p. is_on c (item_at pool.store p)) (order_in pool), order_length pool whole)

  -- a count that was read
  pub count_read : (c v : ℕ) → c < pool.channels → v ≡ get_or pool.counts.items c v → v ≡ get_or pool.counts.items c 0
  count_read c v h e = e ∙ same pool.counts.items c (omega (arith, h, whole.counted.many))
    where
      same : (ns : List ℕ) (k : ℕ) → k < length ns → get_or ns k v ≡ get_or ns k 0
      same [] k b = absurd (omega (arith, b))
      same (n ∷ ns) zero b = refl
      same (n ∷ ns) (suc k) b = same ns k (omega (arith, b))

  module _ (node : Place) (is_first : node ≡ pool.free.first) (some : 0 < pool.free.count) where
    -- the free nodes behind the first
    abbrev pub rest : List ℕ
    rest = free_of (next_of Due pool.store pool.free.first.index) (pool.free.count - 1) pool.store

    cut : free_in pool ≡ node.index ∷ rest
    cut =
        let many : pool.free.count ≡ suc (pool.free.count - 1) = omega (arith, some) in
        ap (λ m. free_of pool.free.first.index m pool.store) many ∙ ap (λ (p : Place). p.index ∷ rest) (sym is_first)

    linked_cut : IsLinked pool.head.index (firsts pool.channels) (node.index ∷ rest) (order_in pool) pool.store
    linked_cut = subst (λ l. IsLinked pool.head.index (firsts pool.channels) l (order_in pool) pool.store) cut whole.held.linked

    held_cut : IsHeld pool.head.index (firsts pool.channels) (rest ++ node.index ∷ []) pool.count pool.store
    held_cut = record {
      linked = linked_turned pool.head.index (firsts pool.channels) rest (order_in pool) node.index pool.store linked_cut;
      flight = whole.held.flight;
    }

    pub free_room : room_at pool.store node.index ≡ true
    free_room = linked_cut.free_room node.index (inl refl)

    module _ (x : Item T) (first : Place) (below : x.channel < pool.channels) (read : first.index ≡ x.channel) where
      at : slice_get (firsts pool.channels) x.channel ≡ Some first.index
      at = first_at pool.channels x.channel below ∙ ap (λ p. Some p) (sym read)

      pub first_ring : (order : List ℕ) × IsRing Channel pool.store first.index order
      first_ring = (nodes_on pool.store x.channel (order_in pool), whole.held.linked.channel x.channel first.index at)

      abbrev pub three : List (Node T)
      three = entered first.index node.index x pool.store

      abbrev pub last : ℕ
      last = last_by x.due pool.head.index pool.ticks.items

      abbrev dues : List ℕ
      dues = dues_of pool.head.index pool.count pool.store

      module _ (above : All (λ (e : Item T). e.number < x.number) (items_of pool)) where
        greatest : (q : ℕ) (y : Item T) → IsIn q (order_in pool) → item_at pool.store q ≡ Some y → y.number < x.number
        greatest q y i e =
            let at = members.contains_of_in (items_of pool) y (item_member pool.store (order_in pool) q y i e) in
            subst (λ (z : Item T). z.number < x.number) at.2 (above at.0 y at.1)

        abbrev dues_then : List ℕ
        dues_then =
            then pool.head.index (firsts pool.channels) rest (order_in pool) node.index pool.store held_cut.linked x first.index at dues pool.ticks.items
            whole.by_due greatest

        entered_dues : IsByDue pool.head.index (order_in pool ++ node.index ∷ []) dues_then (put_tick x.due node.index pool.ticks.items)
            (link_behind Due node.index last three)
        entered_dues =
            due_entered pool.head.index (firsts pool.channels) rest
            (order_in pool) node.index pool.store held_cut.linked x first.index at dues pool.ticks.items whole.by_due greatest

        three_ring : IsRing Due three pool.head.index dues
        three_ring =
            due_three pool.head.index (firsts pool.channels) rest
            (order_in pool) node.index pool.store held_cut.linked x first.index at dues pool.ticks.items whole.by_due greatest

        last_in : IsIn last (pool.head.index ∷ dues)
        last_in =
            let s = stand pool.head.index (firsts pool.channels) rest
            (order_in pool) node.index pool.store held_cut.linked x first.index at dues pool.ticks.items whole.by_due greatest in
            elim s.end [
              | inl e ↦ inl e.1
              | inr e ↦ inr (subst (λ l. IsIn last l) (sym s.cut) (in_front last s.front s.behind (subst (λ l. IsIn last l) (sym e.1) (in_middle e.0 last []))))
            ]

        module _ (one : List (Node T)) (one_is : one ≡ three) where
          room_one : (q : ℕ) → room_at pool.store q ≡ true → room_at one q ≡ true
          room_one q h =
              ap (λ c. room_at c q) one_is
              ∙ room_two pool.head.index (firsts pool.channels) rest (order_in pool) node.index pool.store held_cut.linked x first.index at q ∙ h

          room_due : (q : ℕ) → IsIn q (pool.head.index ∷ dues) → room_at one q ≡ true
          room_due q i = room_one q (elim i [ inl e ↦ rooms pool whole q (inl e) | inr j ↦ rooms pool whole q (inr (whole.by_due.flies q j)) ])

          pub node_in_one : room_at one node.index ≡ true
          node_in_one = room_one node.index free_room

          pub last_in_one : room_at one last ≡ true
          last_in_one = room_due last last_in

          pub next_in_one : room_at one (next_of Due one last) ≡ true
          next_in_one =
              ap (λ c. room_at one (next_of Due c last)) one_is
              ∙ room_due (next_of Due three last) (ring_next Due three pool.head.index dues three_ring last last_in)

          module _ (two : List (Node T)) (two_is : two ≡ link_behind Due node.index last one) where
            abbrev four : List (Node T)
            four = link_behind Due node.index last three

            is : two ≡ four
            is = two_is ∙ ap (λ c. link_behind Due node.index last c) one_is

            linked_four : IsLinked pool.head.index (firsts pool.channels) rest (order_in pool ++ node.index ∷ []) four
            linked_four =
                linked_alike three four (alike_link node.index last three) pool.head.index (firsts pool.channels) rest (order_in pool ++ node.index ∷ [])
                (linked_entered pool.head.index (firsts pool.channels) rest (order_in pool) node.index pool.store held_cut.linked x first.index at)

            items_then : items_in four (order_in pool ++ node.index ∷ []) ≡ items_of pool ++ x ∷ []
            items_then =
                items_alike three four (alike_link node.index last three) (order_in pool ++ node.index ∷ [])
                ∙ items_entered pool.head.index (firsts pool.channels) rest (order_in pool) node.index pool.store held_cut.linked x first.index at

            flight_then : IsFlight (length (firsts pool.channels)) (items_of pool ++ x ∷ [])
            flight_then = flight_push (length (firsts pool.channels)) (items_of pool) x whole.held.flight above
                (omega (arith, below, firsts_length pool.channels))

            dues_four : dues_of pool.head.index (pool.count + 1) four ≡ dues_then
            dues_four =
                let many : length dues_then ≡ pool.count + 1 =
                omega (arith, entered_dues.many, length-append (order_in pool) (node.index ∷ []), order_length pool whole) in
                ap (λ n. trace (next_of Due four) pool.head.index n) (sym many) ∙ trace_ring Due four pool.head.index dues_then entered_dues.ring

            order_four : order_of pool.head.index (pool.count + 1) four ≡ order_in pool ++ node.index ∷ []
            order_four =
                order_is four pool.head.index (pool.count + 1) (order_in pool ++ node.index ∷ []) dues_then (put_tick x.due node.index pool.ticks.items)
                entered_dues
                dues_four
                (ascend_of four (order_in pool ++ node.index ∷ []) linked_four.held
                (subst (λ xs. IsFlight (length (firsts pool.channels)) xs) (sym items_then) flight_then).ascending)

            items_four : items_in four (order_of pool.head.index (pool.count + 1) four) ≡ items_of pool ++ x ∷ []
            items_four = ap (λ o. items_in four o) order_four ∙ items_then

            held_four : IsHeld pool.head.index (firsts pool.channels) rest (pool.count + 1) four
            held_four = record {
              linked = subst (λ o. IsLinked pool.head.index (firsts pool.channels) rest o four) (sym order_four) linked_four;
              flight = subst (λ xs. IsFlight (length (firsts pool.channels)) xs) (sym items_four) flight_then;
            }

            rest_four : free_of (next_of Due pool.store pool.free.first.index) (pool.free.count - 1) four ≡ rest
            rest_four = free_same pool.store four (next_of Due pool.store pool.free.first.index) (pool.free.count - 1) (λ q i.
                let in_order : IsIn last (pool.head.index ∷ order_in pool) = elim last_in [ inl e ↦ inl e | inr j ↦ inr (whole.by_due.flies last j) ] in
                next_linked node.index last three q
                (first_apart pool.head.index (firsts pool.channels) rest (order_in pool) node.index pool.store linked_cut q i)
                (free_apart pool.head.index (firsts pool.channels) (node.index ∷ rest) (order_in pool) pool.store linked_cut last q in_order (inr i))
                ∙ next_entered first.index node.index x pool.store q)

            pub put_held : (free : Free) → free.first.index ≡ next_of Due pool.store pool.free.first.index → free.count + 1 ≡ pool.free.count →
                IsHeld pool.head.index (firsts pool.channels) (free_of free.first.index free.count two) (pool.count + 1) two
            put_held free f m =
                let less : free.count ≡ pool.free.count - 1 = omega (arith, m) in
                subst (λ c. IsHeld pool.head.index (firsts pool.channels) (free_of free.first.index free.count c) (pool.count + 1) c) (sym is)
                (subst (λ l. IsHeld pool.head.index (firsts pool.channels) l (pool.count + 1) four)
                (sym ((λ i. free_of (f i) (less i) four) ∙ rest_four)) held_four)

            pub put_items : items_in two (order_of pool.head.index (pool.count + 1) two) ≡ items_of pool ++ x ∷ []
            put_items = subst (λ c. items_in c (order_of pool.head.index (pool.count + 1) c) ≡ items_of pool ++ x ∷ []) (sym is) items_four

            -- none has a greater number
            pub put_latest : All (λ (e : Item T). e.number ≤ x.number) (items_in two (order_of pool.head.index (pool.count + 1) two))
            put_latest = subst (λ xs. All (λ (e : Item T). e.number ≤ x.number) xs) (sym put_items) (at_most above)
              where
                at_most : All (λ (e : Item T). e.number < x.number) (items_of pool) → All (λ (e : Item T). e.number ≤ x.number) (items_of pool ++ x ∷ [])
                at_most less = grind (arith, common_steps, less)

            pub put_recent : (late : List Place) → AreLast (ptrs (pool.recent.items ++ node ∷ [])) (ptrs late) →
                AreLast (order_of pool.head.index (pool.count + 1) two) (ptrs late)
            put_recent late kept = record {
              front = whole.recent.front ++ kept.front;
              cut = ap (λ c. order_of pool.head.index (pool.count + 1) c) is ∙ order_four ∙ ap (λ o. o ++ node.index ∷ []) whole.recent.cut
                  ∙ append_assoc whole.recent.front (ptrs pool.recent.items) (node.index ∷ [])
                  ∙ ap (λ l. whole.recent.front ++ l) (sym (ptrs_push pool.recent.items node) ∙ kept.cut)
                  ∙ sym (append_assoc whole.recent.front kept.front (ptrs late));
            }

            nodes_four : (c : ℕ) → nodes_on four c (order_of pool.head.index (pool.count + 1) four) ≡
                nodes_on pool.store c (order_in pool) ++ cond (x.channel == c) (node.index ∷ []) []
            nodes_four c =
                ap (λ o. nodes_on four c o) order_four ∙ nodes_alike three four (alike_link node.index last three) c (order_in pool ++ node.index ∷ [])
                ∙ nodes_then pool.head.index (firsts pool.channels) rest (order_in pool) node.index pool.store held_cut.linked x first.index at c

            pub put_finger : MatchOption pool.finger ⊤
                (λ f. slice_get (nodes_on two f.channel (order_of pool.head.index (pool.count + 1) two)) f.place ≡ Some f.node.index)
            put_finger =
                finger_kept pool.finger _ _ (λ f there.
                ap (λ c. slice_get (nodes_on c f.channel (order_of pool.head.index (pool.count + 1) c)) f.place) is
                ∙ ap (λ l. slice_get l f.place) (nodes_four f.channel)
                ∙ get_more (nodes_on pool.store f.channel (order_in pool)) (cond (x.channel == f.channel) (node.index ∷ []) []) f.place f.node.index there)
                whole.finger

            pub put_counted : (counts : List ℕ) → counts ≡ slice_set pool.counts.items x.channel (get_or pool.counts.items x.channel 0 + 1) →
                IsCounted counts pool.channels (order_of pool.head.index (pool.count + 1) two) two
            put_counted counts e =
                subst (λ c. IsCounted counts pool.channels (order_of pool.head.index (pool.count + 1) c) c) (sym is)
                (subst (λ o. IsCounted counts pool.channels o four) (sym order_four)
                (subst (λ l. IsCounted l pool.channels (order_in pool ++ node.index ∷ []) four) (sym e)
                (counted_alike _ pool.channels (order_in pool ++ node.index ∷ []) three four (alike_link node.index last three)
                (counted_entered pool.head.index (firsts pool.channels) rest
                (order_in pool) node.index pool.store held_cut.linked x first.index at pool.counts.items pool.channels whole.counted below))))

            pub put_by_due : (ticks : List Tick) → ticks ≡ put_tick x.due node.index pool.ticks.items →
                IsByDue pool.head.index (order_of pool.head.index (pool.count + 1) two) (dues_of pool.head.index (pool.count + 1) two) ticks two
            put_by_due ticks e =
                subst (λ c. IsByDue pool.head.index (order_of pool.head.index (pool.count + 1) c) (dues_of pool.head.index (pool.count + 1) c) ticks c) (sym is)
                (subst (λ o. IsByDue pool.head.index o (dues_of pool.head.index (pool.count + 1) four) ticks four) (sym order_four)
                (subst (λ d. IsByDue pool.head.index (order_in pool ++ node.index ∷ []) d ticks four) (sym dues_four)
                (subst (λ l. IsByDue pool.head.index (order_in pool ++ node.index ∷ []) dues_then l four) (sym e) entered_dues)))
