-- What a pool keeps between two calls, and the items that it holds.
use Rattle.std.specs.Prelude.{◌≡◌, ◌≤◌, ◌<◌, ◌+◌, ◌^◌, ◌∷◌, ◌++◌, ℕ, List, length, map, slice_get, slice_index, Some, MatchOption, ⊤, min}
use Rattle.std.specs.Vec.{vec_capacity}
use Rattle.std.specs.List.{All}
use Rattle.mn_flight.specs.declared.Item.{Item}
use Rattle.mn_flight_pool.specs.Pool.{dues_of, order_of, free_of, items_in, nodes_on, IsHeld}
use Rattle.mn_flight_pool.specs.Rings.{item_at}
use Rattle.mn_flight_pool.specs.ByDue.{IsByDue}
use Rattle.mn_flight_pool.specs.declared.node.Place.{Place}
use Rattle.mn_flight_pool.specs.Nodes.{Node, firsts}
use Rattle.mn_flight_pool.specs.declared.pool.Pool.{Pool}
use Rattle.mn_flight_pool.specs.declared.pool.Finger.{Finger}

-- these are the last of the order
pub record AreLast (order late : List ℕ) : Type 0 where
  pub front : List ℕ
  pub cut : order ≡ front ++ late

abbrev pub ptrs : List Place → List ℕ
ptrs ps = map (λ p. p.index) ps

module _ {T : Type 0} where
  -- for each channel the number of its nodes is kept
  pub record IsCounted (counts : List ℕ) (channels : ℕ) (order : List ℕ) (cells : List (Node T)) : Type 0 where
    pub many : length counts ≡ channels
    pub each : (c : ℕ) → c < channels → slice_index counts c ≡ length (nodes_on cells c order)

  -- the nodes that hold items, in the order of the items' numbers
  abbrev pub order_in : Pool T → List ℕ
  order_in pool = order_of pool.head.index pool.count pool.store

  -- the nodes that hold none
  abbrev pub free_in : Pool T → List ℕ
  free_in pool = free_of pool.free.first.index pool.free.count pool.store

  -- the items, in the order of their numbers
  abbrev pub items_of : Pool T → List (Item T)
  items_of pool = items_in pool.store (order_in pool)

  -- this node stands at this place, from 0, among those of the channel
  abbrev pub IsPlaced : Pool T → ℕ → ℕ → ℕ → Type 0
  IsPlaced pool channel place node = slice_get (nodes_on pool.store channel (order_in pool)) place ≡ Some node

  -- the finger is on this channel, less than so many steps from this place
  pub record IsNear (pool : Pool T) (channel place most : ℕ) : Type 0 where
    pub finger : Finger
    pub is : pool.finger ≡ Some finger
    pub on : finger.channel ≡ channel
    pub before : finger.place < place + most
    pub behind : place < finger.place + most

  -- the node of the item of this number is kept among those put last, as many before the last as the number is before the last one's
  pub record IsRecent (pool : Pool T) (number : ℕ) : Type 0 where
    pub front : List Place
    pub node : Place
    pub behind : List Place
    pub cut : pool.recent.items ≡ front ++ node ∷ behind
    pub back : number + length behind ≡ pool.latest
    pub item : Item T
    pub holds : item_at pool.store node.index ≡ Some item
    pub number_is : item.number ≡ number

  pub record IsWhole (pool : Pool T) : Type 0 where
    pub held : IsHeld pool.head.index (firsts pool.channels) (free_in pool) pool.count pool.store
    pub counted : IsCounted pool.counts.items pool.channels (order_in pool) pool.store
    pub by_due : IsByDue pool.head.index (order_in pool) (dues_of pool.head.index pool.count pool.store) pool.ticks.items pool.store
    pub few : pool.count + pool.free.count < 2 ^ 32
    pub ticks_room : pool.count + pool.free.count ≤ vec_capacity pool.ticks
    pub recent : AreLast (order_in pool) (ptrs pool.recent.items)
    pub recent_room : min (pool.count + pool.free.count) 65536 ≤ vec_capacity pool.recent
    pub finger : MatchOption pool.finger ⊤ (λ finger. IsPlaced pool finger.channel finger.place finger.node.index)
    pub latest : All (λ item. item.number ≤ pool.latest) (items_of pool)
