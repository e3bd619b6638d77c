-- The first node of the ring by due tick and the nodes with items are there, and differ.
use Rattle.std.proofs.Common.{ℕ, List, [], ◌∷◌, ◌++◌, IsSome}
use Rattle.std.specs.List.{IsDistinct}
use Rattle.mn_flight_pool.specs.Cells.{same_place, value_at}
use Rattle.mn_flight_pool.specs.Rings.{IsIn}
use Rattle.mn_flight_pool.specs.Pool.{IsLinked}
use Rattle.mn_flight_pool.specs.Nodes.{Node}
use Rattle.mn_flight_pool.proofs.Neighbours.{free_left, free_right}
use Rattle.mn_flight_pool.proofs.Nodes.{room_there}

distinct_left : (xs ys : List ℕ) → IsDistinct same_place (xs ++ ys) → IsDistinct same_place xs
unfolding IsDistinct
distinct_left [] ys d = tt
distinct_left (x ∷ xs) ys d = (free_left x xs ys d.0, distinct_left xs ys d.1)

distinct_right : (xs ys : List ℕ) → IsDistinct same_place (xs ++ ys) → IsDistinct same_place ys
unfolding IsDistinct
distinct_right [] ys d = d
distinct_right (x ∷ xs) ys d = distinct_right xs ys d.1

pub apart_rest : (head : ℕ) (heads order free : List ℕ) → IsDistinct same_place ((head ∷ heads) ++ (order ++ free)) → IsDistinct same_place (head ∷ order)
unfolding IsDistinct
apart_rest head heads order free d =
    (free_left head order free (free_right head heads (order ++ free) d.0), distinct_left order free (distinct_right heads (order ++ free) d.1))

module _ {T : Type 0} (head : ℕ) (heads free order : List ℕ) (cells : List (Node T)) (linked : IsLinked head heads free order cells) where
  pub head_there : IsSome (value_at head cells)
  head_there = room_there cells head linked.head_room

  pub order_there : (q : ℕ) → IsIn q order → IsSome (value_at q cells)
  order_there q i = room_there cells q (linked.order_room q i)

  pub order_apart : IsDistinct same_place (head ∷ order)
  order_apart = apart_rest head heads order free linked.apart
