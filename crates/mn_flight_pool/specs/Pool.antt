-- What a pool keeps: the nodes that hold items, in a ring of all by due tick and in one for each channel, in the order of the
-- items' numbers; and the nodes that hold none.
use Rattle.std.specs.Prelude.{◌≡◌, ◌==◌, ℕ, zero, suc, Bool, true, false, nat_lt, cond, List, [], ◌∷◌, ◌++◌, length, filter, filter_map, slice_get, Option}
use Rattle.std.specs.Prelude.{None, Some, IsSome}
use Rattle.std.specs.List.{AllByRecursion, IsDistinct}
use Rattle.mn_flight.specs.declared.Item.{Item}
use Rattle.mn_flight.specs.Flying.{IsFlight}
use Rattle.mn_flight_pool.specs.Cells.{same_place, value_at}
use Rattle.mn_flight_pool.specs.Rings.{IsRing, item_at, room_at, HaveRoom, next_of, prev_of, with_item, link_behind, unlink}
use Rattle.mn_flight_pool.specs.Nodes.{Node}
use Rattle.mn_flight_pool.specs.declared.node.Pair.TheVariants.{Channel, Due}

-- so many places from s on, each the next of the one before
abbrev pub trace : (ℕ → ℕ) → ℕ → ℕ → List ℕ
trace next s zero = []
trace next s (suc n) = next s ∷ trace next (next s) n

-- so many places, of which s is the first, each the next of the one before
abbrev pub chain : (ℕ → ℕ) → ℕ → ℕ → List ℕ
chain next s zero = []
chain next s (suc n) = s ∷ chain next (next s) n

-- so many steps from s
abbrev pub steps_of : (ℕ → ℕ) → ℕ → ℕ → ℕ
steps_of next s zero = s
steps_of next s (suc n) = next (steps_of next s n)

module _ {T : Type 0} where
  abbrev pub is_on : ℕ → Option (Item T) → Bool
  is_on channel None = false
  is_on channel (Some item) = item.channel == channel

  abbrev pub number_in : Option (Item T) → ℕ
  number_in None = 0
  number_in (Some item) = item.number

  module _ (cells : List (Node T)) where
    -- the items in these nodes
    abbrev pub items_in : List ℕ → List (Item T)
    items_in ps = filter_map (item_at cells) ps

    -- a node among others that are sorted by the numbers of their items
    abbrev pub put_by_number : ℕ → List ℕ → List ℕ
    put_by_number p [] = p ∷ []
    put_by_number p (q ∷ qs) = cond (nat_lt (number_in (item_at cells p)) (number_in (item_at cells q))) (p ∷ q ∷ qs) (q ∷ put_by_number p qs)

    -- these nodes, sorted by the numbers of their items
    abbrev pub by_number : List ℕ → List ℕ
    by_number [] = []
    by_number (p ∷ ps) = put_by_number p (by_number ps)

    -- of these nodes, those whose item is on the channel
    abbrev pub nodes_on : ℕ → List ℕ → List ℕ
    nodes_on channel ps = filter (λ p. is_on channel (item_at cells p)) ps

  -- the nodes that hold items stand in their channel's ring in this order, and all nodes are different
  pub record IsLinked (head : ℕ) (heads free order : List ℕ) (cells : List (Node T)) : Type 0 where
    pub channel : (c : ℕ) (first : ℕ) → slice_get heads c ≡ Some first → IsRing Channel cells first (nodes_on cells c order)
    pub apart : IsDistinct same_place ((head ∷ heads) ++ (order ++ free))
    pub held : AllByRecursion (λ p. IsSome (item_at cells p)) order
    pub there : AllByRecursion (λ p. IsSome (value_at p cells)) free
    pub head_room : room_at cells head ≡ true
    pub order_room : HaveRoom cells order
    pub free_room : HaveRoom cells free

  -- the node at p takes an item, and stands behind all others in its channel's ring
  abbrev pub entered : ℕ → ℕ → Item T → List (Node T) → List (Node T)
  entered first p item cells = let one = with_item p (Some item) cells in link_behind Channel p (prev_of Channel one first) one

  -- the node at p leaves its channel's ring, and its item is taken out
  abbrev pub left : ℕ → List (Node T) → List (Node T)
  left p cells = with_item p None (unlink Channel p cells)

  -- the nodes that hold items, the soonest first
  abbrev pub dues_of : ℕ → ℕ → List (Node T) → List ℕ
  dues_of head count cells = trace (next_of Due cells) head count

  -- the nodes that hold items, in the order of the items' numbers
  abbrev pub order_of : ℕ → ℕ → List (Node T) → List ℕ
  order_of head count cells = by_number cells (dues_of head count cells)

  -- so many nodes that hold no item, each naming the one behind it
  abbrev pub free_of : ℕ → ℕ → List (Node T) → List ℕ
  free_of first count cells = chain (next_of Due cells) first count

  -- so many nodes hold items, and these are a flight
  pub record IsHeld (head : ℕ) (heads free : List ℕ) (count : ℕ) (cells : List (Node T)) : Type 0 where
    pub linked : IsLinked head heads free (order_of head count cells) cells
    pub flight : IsFlight (length heads) (items_in cells (order_of head count cells))
