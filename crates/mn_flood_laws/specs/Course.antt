-- What a script of the flood does: its lines one after another, what is refused, and where a full count of steps stops it.
use Rattle.std.specs.Prelude.{ℕ, zero, suc, ◌+◌, Bool, true, false, not, nat_le, cond, List, [], ◌∷◌, ◌++◌, length, Option, Some, None, is_none}
use Rattle.mn_base.specs.Limits.{most_steps}
use Rattle.mn_wiring.specs.Wiring.{Wiring, is_up}
use Rattle.mn_flood_laws.specs.Flood.{FloodWorld, FloodEvent, Change, Hear, Sent, start, flood_after, first_on}

pub data FloodRefused : Type 0 where
  Unchanged : FloodRefused
  FloodFull : FloodRefused
  Empty : FloodRefused

-- where so many adverts fly, no link may change
abbrev pub most_adverts : ℕ
most_adverts = 100000

-- two truth values are the same
abbrev pub agree : Bool → Bool → Bool
agree true other = other
agree false other = not other

-- the first cause that holds, in the order in which they are tried; none where the event is done
abbrev pub flood_refusal : FloodWorld → FloodEvent → Option FloodRefused
flood_refusal world (Change l up) = cond (agree up (is_up world.up l)) (Some Unchanged) (cond (nat_le most_adverts (length world.flying)) (Some FloodFull) None)
flood_refusal world (Hear l dir) = cond (is_none (first_on l dir world.flying)) (Some Empty) None

-- a line does an event, or drains
pub data FloodCommand : Type 0 where
  Do : (event : FloodEvent) → FloodCommand
  Drain : FloodCommand

pub record FloodLine : Type 0 where
  pub number : ℕ
  pub command : FloodCommand

pub record RefusedLine : Type 0 where
  pub line : ℕ
  pub cause : FloodRefused

pub record FloodRun : Type 0 where
  pub world : FloodWorld
  pub steps : ℕ
  pub refused : List RefusedLine
  pub is_stopped : Bool

abbrev pub first_run : Wiring → FloodRun
first_run wiring = record { world = start wiring; steps = 0; refused = []; is_stopped = false }

-- one step more; where there are as many as there may be, the run stops
abbrev pub stepped : Wiring → FloodRun → FloodEvent → FloodRun
stepped wiring run event =
    cond (nat_le most_steps run.steps) (record run { is_stopped = true }) (record run { world = flood_after wiring run.world event; steps = run.steps + 1 })

abbrev pub tried : Wiring → FloodRun → ℕ → FloodEvent → Option FloodRefused → FloodRun
tried wiring run line event None = stepped wiring run event
tried wiring run line event (Some cause) = record run { refused = run.refused ++ record { line = line; cause = cause } ∷ [] }

abbrev pub unless_stopped : FloodRun → (FloodRun → FloodRun) → FloodRun
unless_stopped run on = cond run.is_stopped run (on run)

abbrev pub drained_by : Wiring → (FloodRun → FloodRun) → FloodRun → List Sent → FloodRun
drained_by wiring on run [] = run
drained_by wiring on run (sent ∷ more) = unless_stopped (stepped wiring run (Hear sent.link sent.dir)) on

-- at most so many hearings
abbrev pub drain_for : ℕ → Wiring → FloodRun → FloodRun
drain_for zero wiring run = run
drain_for (suc more) wiring run = drained_by wiring (λ later. drain_for more wiring later) run run.world.flying

-- one hearing more than there may be steps, so that no drain ends by this count
unfoldable pub every_hearing : ℕ
every_hearing = 4000001

abbrev pub with_line : Wiring → FloodRun → FloodLine → FloodRun
with_line wiring run line = elim line.command [
  | Do event ↦ tried wiring run line.number event (flood_refusal run.world event)
  | Drain ↦ drain_for every_hearing wiring run
]

abbrev pub run_from : Wiring → FloodRun → List FloodLine → FloodRun
run_from wiring run [] = run
run_from wiring run (line ∷ lines) = unless_stopped (with_line wiring run line) (λ later. run_from wiring later lines)

abbrev pub run_of : Wiring → List FloodLine → FloodRun
run_of wiring lines = run_from wiring (first_run wiring) lines
