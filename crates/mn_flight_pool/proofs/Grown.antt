-- A whole pool with one more node, and the one that holds nothing.
use Rattle.std.proofs.Common.{◌≡◌, ◌+◌, ℕ, zero, suc, true, List, [], ◌∷◌, ◌++◌, length, Some, None, IsSome, refl, sym, ap, ◌∙◌, subst, arith}
use Rattle.std.proofs.Common.{◌-◌, append-nil, take, replicate, get_or}
use Rattle.std.proofs.lemmas.List.{length-replicate}
use Rattle.std.specs.Prelude.{◌≤◌, MatchOption, ⊤, slice_get}
use Rattle.std.specs.List.{All, AllByRecursion, IsDistinct}
use Rattle.mn_flight.specs.declared.Item.{Item}
use Rattle.mn_flight.proofs.Kept.{none_flies}
use Rattle.mn_flight_pool.specs.Cells.{same_place, value_at}
use Rattle.mn_flight_pool.specs.Rings.{IsIn, IsRing, IsVacantLast, item_in, item_at, room_at, next_in, prev_in, next_of, set_next, lone}
use Rattle.mn_flight_pool.specs.ByDue.{IsByDue}
use Rattle.mn_flight_pool.specs.Pool.{items_in, nodes_on, dues_of, order_of, free_of, trace, IsLinked, IsHeld}
use Rattle.mn_flight_pool.specs.Whole.{AreLast, ptrs, order_in, free_in, items_of, IsWhole, IsCounted}
use Rattle.mn_flight_pool.specs.declared.pool.Pool.{Pool}
use Rattle.mn_flight_pool.specs.declared.free.Free.{Free}
use Rattle.mn_flight_pool.specs.declared.node.Place.{Place}
use Rattle.mn_flight_pool.specs.declared.tick.Tick.{Tick}
use Rattle.mn_flight_pool.specs.declared.node.Pair.{Pair}
use Rattle.mn_flight_pool.specs.declared.node.Pair.TheVariants.{Channel, Due}
use Rattle.mn_flight_pool.specs.declared.node.Link.{Link}
use Rattle.mn_flight_pool.specs.Nodes.{Node, firsts, lone_firsts}
use Rattle.mn_flight_pool.proofs.Changed.{next_stays, prev_stays}
use Rattle.mn_flight_pool.proofs.Rings.{Unlike, room_lone, next_at, prev_at, next_past, set_next_leaves, set_prev_leaves, link_unlike, item_kept, ring_same}
use Rattle.mn_flight_pool.proofs.Entered.{same_nodes_on}
use Rattle.mn_flight_pool.proofs.Finger.{finger_kept}
use Rattle.mn_flight_pool.proofs.Held as held
use Rattle.mn_flight_pool.proofs.FreeNodes.{by_due_same, free_same}
use Rattle.mn_flight_pool.proofs.Freed.{held_freed, order_freed, items_freed, nodes_freed, counted_freed, by_due_freed}
use Rattle.mn_flight_pool.proofs.Sooner.{all_in}
use Rattle.mn_flight_pool.proofs.Traces.{trace_ring}
use Rattle.mn_flight_pool.proofs.Whole.{order_length, ascends}
use Rattle.mn_flight_pool.proofs.Linked.{head_there}
use Rattle.mn_flight_pool.proofs.Sorted.{ascend_same, order_is}
use Rattle.mn_flight.specs.Flying.{IsFlight}
use Rattle.mn_flight_pool.proofs.PastDue.{due_channel}
use Rattle.mn_flight_pool.proofs.Firsts.{first_is, apart_firsts, many, ring_alone}

-- a list that was empty and has so many of a value since
pub filled : (n : ℕ) (old : List ℕ) (len : ℕ) (new : List ℕ) → old ≡ [] → len ≡ 0 → new ≡ take n old ++ replicate (n - len) zero → new ≡ replicate n zero
filled n old len new e f h =
    let all : n - len ≡ n = omega (arith, f) in
    h ∙ ap (λ l. take n l ++ replicate (n - len) zero) e ∙ ap (λ l. l ++ replicate (n - len) zero) (none n) ∙ ap (λ k. replicate k zero) all
  where
    none : (m : ℕ) → take {A = ℕ} m [] ≡ []
    none zero = refl
    none (suc m) = refl

one_apart : (p : ℕ) → IsDistinct same_place (p ∷ [])
unfolding IsDistinct
one_apart p = (tt, tt)

module _ {T : Type 0} where
  -- 1. A ring of one node
  lone_stays : (pair : Pair) (p x : ℕ) (cells : List (Node T)) → IsSome (value_at x cells) → IsSome (value_at x (lone pair p cells))
  lone_stays pair p x cells h =
      prev_stays pair p p x (set_next pair p p cells) (lone pair p cells) refl (next_stays pair p p x cells (set_next pair p p cells) refl h)

  ring_lone : (pair : Pair) (p : ℕ) (cells : List (Node T)) → IsSome (value_at p cells) → IsRing pair (lone pair p cells) p []
  ring_lone pair p cells there = record {
    apart = one_apart p;
    there = (lone_stays pair p p cells there, tt);
    round = (
      next_past pair p p p (set_next pair p p cells) ∙ next_at pair p p cells there,
      prev_at pair p p (set_next pair p p cells) (next_stays pair p p p cells (set_next pair p p cells) refl there),
      tt,
    );
  }

  ring_past_lone : (pair other : Pair) → Unlike pair other → (p : ℕ) (cells : List (Node T)) (s : ℕ) (ps : List ℕ) → IsRing other cells s ps →
      IsRing other (lone pair p cells) s ps
  ring_past_lone pair other u p cells =
      ring_same cells (lone pair p cells) (λ x h. lone_stays pair p x cells h) other
      (λ x h. set_prev_leaves pair (next_in other) (λ link node. ap (λ (l : Link). l.next.index) (link_unlike pair other u link node)) p p x
      (set_next pair p p cells)
      ∙ set_next_leaves pair (next_in other) (λ link node. ap (λ (l : Link). l.next.index) (link_unlike pair other u link node)) p p x cells)
      (λ x h. set_prev_leaves pair (prev_in other) (λ link node. ap (λ (l : Link). l.prev.index) (link_unlike pair other u link node)) p p x
      (set_next pair p p cells)
      ∙ set_next_leaves pair (prev_in other) (λ link node. ap (λ (l : Link). l.prev.index) (link_unlike pair other u link node)) p p x cells)

  item_lone : (pair : Pair) (p x : ℕ) (cells : List (Node T)) → item_at (lone pair p cells) x ≡ item_at cells x
  item_lone pair p x cells =
      set_prev_leaves pair item_in (item_kept pair) p p x (set_next pair p p cells) ∙ set_next_leaves pair item_in (item_kept pair) p p x cells

  first_there : (p : ℕ) (old new : List (Node T)) → IsVacantLast p old new → IsSome (value_at p new)
  first_there p old new added = subst (λ o. IsSome o) (sym (held.value_added p old new added)) refl

  first_vacant : (p : ℕ) (old new : List (Node T)) → IsVacantLast p old new → item_at new p ≡ None
  first_vacant p old new added = ap item_in (held.value_added p old new added) ∙ added.2

  -- 2. One more node
  module _ (pool : Pool T) (whole : IsWhole pool) (node : Place) (new : List (Node T)) (added : IsVacantLast node.index pool.store new)
      (fresh : value_at node.index pool.store ≡ None) where
    heads_there : AllByRecursion (λ q. IsSome (value_at q pool.store)) (firsts pool.channels)
    heads_there = held.heads_there pool.head.index (firsts pool.channels) (free_in pool) (order_in pool) pool.store whole.held.linked

    same_item : (q : ℕ) → IsIn q (order_in pool) → item_at new q ≡ item_at pool.store q
    same_item q i =
        held.item_kept node.index pool.store new added fresh pool.head.index (firsts pool.channels) (free_in pool) (order_in pool) whole.held.linked
        heads_there q i

    abbrev dues : List ℕ
    dues = dues_of pool.head.index pool.count pool.store

    new_due_ring : IsRing Due new pool.head.index dues
    new_due_ring = held.ring_kept node.index pool.store new added fresh Due pool.head.index dues whole.by_due.ring

    same_dues : dues_of pool.head.index pool.count new ≡ dues
    same_dues =
        let many : length dues ≡ pool.count = whole.by_due.many ∙ order_length pool whole in
        ap (λ n. trace (next_of Due new) pool.head.index n) (sym many) ∙ trace_ring Due new pool.head.index dues new_due_ring

    head_vacant : item_at new pool.head.index ≡ None
    head_vacant =
        ap item_in (held.value_kept node.index pool.store new added fresh pool.head.index
        (head_there pool.head.index (firsts pool.channels) (free_in pool) (order_in pool) pool.store whole.held.linked)) ∙ whole.by_due.vacant

    due_added : IsByDue pool.head.index (order_in pool) dues pool.ticks.items new
    due_added = by_due_same pool.head.index (order_in pool) dues pool.ticks.items pool.store new whole.by_due new_due_ring head_vacant same_item

    same_order : order_of pool.head.index pool.count new ≡ order_in pool
    same_order =
        order_is new pool.head.index pool.count (order_in pool) dues pool.ticks.items due_added same_dues
        (ascend_same pool.store new (order_in pool) same_item (ascends pool whole))

    items_added : items_in new (order_of pool.head.index pool.count new) ≡ items_of pool
    items_added =
        ap (λ o. items_in new o) same_order
        ∙ held.items_added node.index pool.store new added fresh pool.head.index (firsts pool.channels) (free_in pool)
        (order_in pool) whole.held.linked heads_there

    held_added : room_at new node.index ≡ true → IsHeld pool.head.index (firsts pool.channels) (free_in pool ++ node.index ∷ []) pool.count new
    held_added own = record {
      linked = subst (λ o. IsLinked pool.head.index (firsts pool.channels) (free_in pool ++ node.index ∷ []) o new) (sym same_order)
          (held.linked_added node.index pool.store new added fresh pool.head.index (firsts pool.channels) (free_in pool) (order_in pool) whole.held.linked
          heads_there own);
      flight = subst (λ xs. IsFlight (length (firsts pool.channels)) xs) (sym items_added) whole.held.flight;
    }

    same_free : free_of pool.free.first.index pool.free.count new ≡ free_in pool
    same_free =
        free_same pool.store new pool.free.first.index pool.free.count
        (λ q i. ap (next_in Due) (held.value_kept node.index pool.store new added fresh q
        (all_in (λ r. IsSome (value_at r pool.store)) (free_in pool) q whole.held.linked.there i)))

    recent_added : AreLast (order_of pool.head.index pool.count new) (ptrs pool.recent.items)
    recent_added = record { front = whole.recent.front; cut = same_order ∙ whole.recent.cut }

    finger_added : MatchOption pool.finger ⊤ (λ f. slice_get (nodes_on new f.channel (order_of pool.head.index pool.count new)) f.place ≡ Some f.node.index)
    finger_added =
        finger_kept pool.finger _ _ (λ f at.
        ap (λ l. slice_get l f.place) (ap (λ o. nodes_on new f.channel o) same_order ∙ same_nodes_on pool.store new f.channel (order_in pool) same_item) ∙ at)
        whole.finger

    counted_added : IsCounted pool.counts.items pool.channels (order_of pool.head.index pool.count new) new
    counted_added =
        subst (λ o. IsCounted pool.counts.items pool.channels o new) (sym same_order)
        (record {
          many = whole.counted.many;
          each =
              λ c h. whole.counted.each c h ∙ ap length (sym (same_nodes_on pool.store new c (order_in pool) same_item));
        })

    by_due_added : IsByDue pool.head.index (order_of pool.head.index pool.count new) (dues_of pool.head.index pool.count new) pool.ticks.items new
    by_due_added =
        subst (λ o. IsByDue pool.head.index o (dues_of pool.head.index pool.count new) pool.ticks.items new) (sym same_order)
        (subst (λ d. IsByDue pool.head.index (order_in pool) d pool.ticks.items new) (sym same_dues) due_added)

    -- and it is the first of the free ones
    module _ (own : room_at new node.index ≡ true) (then : List (Node T)) (is : then ≡ set_next Due node.index pool.free.first.index new) where
      pub grown_held : (free : Free) → free.first ≡ node → free.count ≡ pool.free.count + 1 →
          IsHeld pool.head.index (firsts pool.channels) (free_of free.first.index free.count then) pool.count then
      grown_held free f m =
          let more : free.count ≡ suc pool.free.count = omega (arith, m) in
          subst (λ l. IsHeld pool.head.index (firsts pool.channels) l pool.count then)
          ((λ i. free_of (sym f i).index (sym more i) then))
          (held_freed pool.head.index (firsts pool.channels) (free_in pool) pool.count node.index pool.free.first.index pool.ticks.items new
          (held_added own) by_due_added then is
          pool.free.count same_free)

      order_grown : order_of pool.head.index pool.count then ≡ order_of pool.head.index pool.count new
      order_grown =
          order_freed pool.head.index (firsts pool.channels) (free_in pool) pool.count node.index pool.free.first.index pool.ticks.items new
          (held_added own) by_due_added then is

      pub grown_items : items_in then (order_of pool.head.index pool.count then) ≡ items_of pool
      grown_items =
          items_freed pool.head.index (firsts pool.channels) (free_in pool) pool.count node.index pool.free.first.index pool.ticks.items new
          (held_added own) by_due_added then is
          ∙ items_added

      pub grown_latest : All (λ (e : Item T). e.number ≤ pool.latest) (items_in then (order_of pool.head.index pool.count then))
      grown_latest = subst (λ xs. All (λ (e : Item T). e.number ≤ pool.latest) xs) (sym grown_items) whole.latest

      pub grown_recent : AreLast (order_of pool.head.index pool.count then) (ptrs pool.recent.items)
      grown_recent = subst (λ o. AreLast o (ptrs pool.recent.items)) (sym order_grown) recent_added

      pub grown_finger : MatchOption pool.finger ⊤ (λ f. slice_get (nodes_on then f.channel (order_of pool.head.index pool.count then)) f.place
          ≡ Some f.node.index)
      grown_finger =
          finger_kept pool.finger _ _ (λ f at.
          ap (λ l. slice_get l f.place)
          (nodes_freed pool.head.index (firsts pool.channels) (free_in pool) pool.count node.index pool.free.first.index pool.ticks.items new
          (held_added own) by_due_added then is f.channel)
          ∙ at) finger_added

      pub grown_counted : IsCounted pool.counts.items pool.channels (order_of pool.head.index pool.count then) then
      grown_counted =
          counted_freed pool.head.index (firsts pool.channels) (free_in pool) pool.count node.index pool.free.first.index pool.ticks.items new
          (held_added own) by_due_added then is
          pool.counts.items pool.channels counted_added

      pub grown_by_due : IsByDue pool.head.index (order_of pool.head.index pool.count then) (dues_of pool.head.index pool.count then) pool.ticks.items then
      grown_by_due =
          by_due_freed pool.head.index (firsts pool.channels) (free_in pool) pool.count node.index pool.free.first.index pool.ticks.items new
          (held_added own) by_due_added then is

  -- 3. The pool that holds nothing
  module _ (n : ℕ) (head : ℕ) (one two : List (Node T)) (added : IsVacantLast head (lone_firsts n) one)
      (fresh : value_at head (lone_firsts {T = T} n) ≡ None) (own : room_at one head ≡ true) (is : two ≡ lone Due head one) where
    abbrev last : List (Node T)
    last = lone Due head one

    there : IsSome (value_at head one)
    there = first_there head (lone_firsts n) one added

    channel_last : (c : ℕ) (first : ℕ) → slice_get (firsts n) c ≡ Some first → IsRing Channel last first []
    channel_last c first e =
        let at = first_is n c first e in
        subst (λ f. IsRing Channel last f []) (sym at.1)
        (ring_past_lone Due Channel due_channel head one c []
        (held.ring_kept head (lone_firsts n) one added fresh Channel c [] (ring_alone T n c at.0)))

    apart_last : IsDistinct same_place ((head ∷ firsts n) ++ [])
    apart_last =
        subst (λ l. IsDistinct same_place l) (sym (append-nil (head ∷ firsts n))) (apart_firsts head n (omega (arith, added.3, many T n)))

    pub empty_held : (first count : ℕ) → count ≡ 0 → IsHeld head (firsts n) (free_of first count two) 0 two
    empty_held first count none =
        subst (λ c. IsHeld head (firsts n) (free_of first count c) 0 c) (sym is)
        (subst (λ m. IsHeld head (firsts n) (free_of first m last) 0 last) (sym none) (record {
          linked = record {
            channel = channel_last;
            apart = apart_last;
            held = tt;
            there = tt;
            head_room = room_lone Due head head one ∙ own;
            order_room = λ q i. absurd i;
            free_room = λ q i. absurd i;
          };
          flight = none_flies (length (firsts n));
        }))

    pub empty_counted : (counts : List ℕ) → counts ≡ replicate n zero → IsCounted counts n [] two
    empty_counted counts e = record { many = ap length e ∙ length-replicate n zero; each = λ c h. ap (λ l. get_or l c 0) e ∙ zeros n c }
      where
        zeros : (m c : ℕ) → get_or (replicate m zero) c 0 ≡ 0
        zeros zero c = refl
        zeros (suc m) zero = refl
        zeros (suc m) (suc c) = zeros m c

    pub empty_by_due : (ticks : List Tick) → ticks ≡ [] → IsByDue head [] [] ticks two
    empty_by_due ticks e =
        subst (λ c. IsByDue head [] [] ticks c) (sym is)
        (subst (λ l. IsByDue head [] [] l last) (sym e) (record {
          ring = ring_lone Due head one there;
          vacant = item_lone Due head head one ∙ first_vacant head (lone_firsts n) one added;
          sooner = tt;
          flies = λ q i. absurd i;
          stands = λ q i. absurd i;
          many = refl;
          ascending = tt;
          lasts = tt;
          each = λ q y i e. absurd i;
        }))
