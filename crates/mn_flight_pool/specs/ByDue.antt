-- The ring by due tick: which nodes stand in it, in which order, and which are the last of their ticks.
use Rattle.std.specs.Prelude.{◌≡◌, ◌<◌, ◌≤◌, ◌==◌, ◌⊎◌, ℕ, Bool, false, cond, List, [], ◌∷◌, length, Option, None, Some}
use Rattle.std.specs.List.{AllByRecursion}
use Rattle.mn_flight.specs.declared.Item.{Item}
use Rattle.mn_flight_pool.specs.Rings.{IsIn, IsRing, item_at}
use Rattle.mn_flight_pool.specs.Ticks.{AreAscending, set_tick, drop_tick}
use Rattle.mn_flight_pool.specs.Nodes.{Node}
use Rattle.mn_flight_pool.specs.declared.node.Pair.TheVariants.{Due}
use Rattle.mn_flight_pool.specs.declared.tick.Tick.{Tick}

-- one of the ticks is this
abbrev pub HasTick : ℕ → List Tick → Type 0
HasTick due [] = ⊥
HasTick due (tick ∷ ticks) = (tick.due ≡ due) ⊎ HasTick due ticks

module _ {T : Type 0} where
  -- whether there is an item and it is due at this tick
  abbrev pub is_due : ℕ → Option (Item T) → Bool
  is_due due None = false
  is_due due (Some item) = item.due == due

  -- the first item is due before the second, or at its tick with a lesser number
  abbrev pub IsSooner : Option (Item T) → Option (Item T) → Type 0
  IsSooner None b = ⊥
  IsSooner (Some a) None = ⊥
  IsSooner (Some a) (Some b) = (a.due < b.due) ⊎ ((a.due ≡ b.due) × (a.number < b.number))

  -- the item of each node is sooner than those of the nodes after it
  abbrev pub AreSooner : List (Node T) → List ℕ → Type 0
  AreSooner cells [] = Unit {0}
  AreSooner cells (p ∷ ps) = AllByRecursion (λ q. IsSooner (item_at cells p) (item_at cells q)) ps × AreSooner cells ps

  -- the item is due at this tick, and none that is due then has a greater number
  abbrev pub IsLastAt : List (Node T) → List ℕ → ℕ → Option (Item T) → Type 0
  IsLastAt cells order due None = ⊥
  IsLastAt cells order due (Some last) = (last.due ≡ due) × ((q : ℕ) (item : Item T) → IsIn q order → item_at cells q ≡ Some item → item.due ≡ due →
      item.number ≤ last.number)

  -- the tick's node is the last that is due then
  pub record IsTick (cells : List (Node T)) (order : List ℕ) (tick : Tick) : Type 0 where
    pub there : IsIn tick.last.index order
    pub last : IsLastAt cells order tick.due (item_at cells tick.last.index)

  -- the nodes with items stand in the ring by due tick, the soonest first, and each due tick has its last node
  pub record IsByDue (head : ℕ) (order dues : List ℕ) (ticks : List Tick) (cells : List (Node T)) : Type 0 where
    pub ring : IsRing Due cells head dues
    pub vacant : item_at cells head ≡ None
    pub sooner : AreSooner cells dues
    pub flies : (q : ℕ) → IsIn q dues → IsIn q order
    pub stands : (q : ℕ) → IsIn q order → IsIn q dues
    pub many : length dues ≡ length order
    pub ascending : AreAscending ticks
    pub lasts : AllByRecursion (IsTick cells order) ticks
    pub each : (q : ℕ) (item : Item T) → IsIn q order → item_at cells q ≡ Some item → HasTick item.due ticks

  -- the ticks once a node between two others left, the first of which may be due then and the second too
  abbrev pub ticks_left : ℕ → ℕ → Option (Item T) → Option (Item T) → List Tick → List Tick
  ticks_left due before at_before at_after ticks =
      cond (is_due due at_after) ticks (cond (is_due due at_before) (set_tick due before ticks) (drop_tick due ticks))
