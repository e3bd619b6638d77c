-- Due ticks, ascending, each with the last node that is due then.
use Rattle.std.specs.Prelude.{◌≡◌, ◌<◌, ◌≤◌, ◌==◌, ℕ, suc, nat_lt, nat_le, cond, List, [], ◌∷◌, length, slice_index_or}
use Rattle.std.specs.List.{AllByRecursion}
use Rattle.mn_flight_pool.specs.declared.tick.Tick.{Tick}

abbrev pub tick_at : ℕ → ℕ → Tick
tick_at due p = record { due = due; last = record { index = p } }

-- each tick is before those after it
abbrev pub AreAscending : List Tick → Type 0
AreAscending [] = Unit {0}
AreAscending (tick ∷ ticks) = AllByRecursion (λ later. tick.due < later.due) ticks × AreAscending ticks

-- how many ticks at the front are before one
abbrev pub earlier : ℕ → List Tick → ℕ
earlier due [] = 0
earlier due (tick ∷ ticks) = cond (nat_lt tick.due due) (suc (earlier due ticks)) 0

-- the node of the last tick that is not after one, or s where there is none
abbrev pub last_by : ℕ → ℕ → List Tick → ℕ
last_by due s [] = s
last_by due s (tick ∷ ticks) = cond (nat_le tick.due due) (last_by due tick.last.index ticks) s

-- p is the last node of a tick, which may be new
abbrev pub put_tick : ℕ → ℕ → List Tick → List Tick
put_tick due p [] = tick_at due p ∷ []
put_tick due p (tick ∷ ticks) = cond (nat_lt tick.due due) (tick ∷ put_tick due p ticks) (tick_at due p ∷ cond (tick.due == due) ticks (tick ∷ ticks))

-- p is the last node of a tick that is there
abbrev pub set_tick : ℕ → ℕ → List Tick → List Tick
set_tick due p [] = []
set_tick due p (tick ∷ ticks) = cond (tick.due == due) (tick_at due p ∷ ticks) (tick ∷ set_tick due p ticks)

-- the ticks without one
abbrev pub drop_tick : ℕ → List Tick → List Tick
drop_tick due [] = []
drop_tick due (tick ∷ ticks) = cond (tick.due == due) ticks (tick ∷ drop_tick due ticks)

-- the tick at i is this one
pub record IsFound (due : ℕ) (ticks : List Tick) (i : ℕ) : Type 0 where
  pub there : i < length ticks
  pub place : i ≡ earlier due ticks
  pub same : (d : Tick) → (slice_index_or ticks i d).due ≡ due

-- the tick at i is the first that is later
pub record IsMissing (due : ℕ) (ticks : List Tick) (i : ℕ) : Type 0 where
  pub within : i ≤ length ticks
  pub place : i ≡ earlier due ticks
  pub later : (d : Tick) → i < length ticks → due < (slice_index_or ticks i d).due
