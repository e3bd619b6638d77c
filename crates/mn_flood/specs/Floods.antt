-- A flood, as contracts see it.
use Rattle.std.specs.Prelude.{◌≡◌, ◌<◌, ◌≤◌, ℕ, ◌+◌, ◌*◌, Bool, false, cond, length, Option, Some, option_map}
use Rattle.mn_wiring.specs.Wiring.{Wiring}
use Rattle.mn_flood_laws.specs.Flood.{FloodWorld, FloodEvent, has, age, start, flood_after}
use Rattle.mn_flood_laws.specs.Course.{FloodRefused, flood_refusal, Unchanged, FloodFull, Empty}
use Rattle.mn_flood_laws.specs.Laws.{IsFlood}
use Rattle.mn_flood.specs.declared.refusal.FloodBad.{FloodBad}
use Rattle.mn_flood.specs.declared.refusal.FloodBad.TheVariants as bad

-- over a wiring, what each node has and what flies; how many events were done, and whether memory was refused to one
pub record FloodNow : Type 0 where
  pub wiring : Wiring
  pub world : FloodWorld
  pub done : ℕ
  pub failed : Bool

-- nothing was done yet
abbrev pub first_flood : Wiring → FloodNow
first_flood wiring = record { wiring = wiring; world = start wiring; done = 0; failed = false }

-- one event more was done
abbrev pub happened : FloodNow → FloodEvent → FloodNow
happened now event = record now { world = flood_after now.wiring now.world event; done = now.done + 1 }

abbrev pub bad_of : FloodRefused → FloodBad
bad_of Unchanged = bad.Unchanged
bad_of FloodFull = bad.FloodFull
bad_of Empty = bad.Empty

-- why an event is refused, if it is: memory was refused before, or else the first cause that holds
abbrev pub refusal_of : FloodNow → FloodEvent → Option FloodBad
refusal_of now event = cond now.failed (Some bad.NoMemory) (option_map bad_of (flood_refusal now.world event))

-- a flood in which so many events were done and so many adverts sent
pub record IsSound (wiring : Wiring) (world : FloodWorld) (done made : ℕ) : Type 0 where
  pub flood : IsFlood wiring world
  pub own : (node : ℕ) → node < length wiring.loopbacks → age (has world node node) ≤ done + 1
  pub few : done ≤ 4000001
  pub sent : made ≤ 4096 * done

-- it is sound as long as memory was never refused
abbrev pub IsStanding : Wiring → FloodWorld → ℕ → ℕ → Bool → Type 0
IsStanding wiring world made done failed = failed ≡ false → IsSound wiring world done made
