-- Where a walk from the node that is due last back has come.
use Rattle.std.specs.Prelude.{◌≡◌, ℕ, List, ◌++◌, length, Some}
use Rattle.mn_flight.specs.declared.Item.{Item}
use Rattle.mn_flight_pool.specs.Rings.{IsIn, item_at, prev_of}
use Rattle.mn_flight_pool.specs.Pool.{dues_of, steps_of}
use Rattle.mn_flight_pool.specs.declared.pool.Pool.{Pool}
use Rattle.mn_flight_pool.specs.declared.node.Pair.TheVariants.{Due}

-- so many nodes were passed, each with an item of another number
pub record IsPassed {T : Type 0} (pool : Pool T) (number steps : ℕ) (at : ℕ) : Type 0 where
  pub front : List ℕ
  pub passed : List ℕ
  pub cut : dues_of pool.head.index pool.count pool.store ≡ front ++ passed
  pub count : length passed ≡ steps
  pub node : at ≡ steps_of (prev_of Due pool.store) pool.head.index steps
  pub other : (q : ℕ) (y : Item T) → IsIn q passed → item_at pool.store q ≡ Some y → y.number ≡ number → ⊥
