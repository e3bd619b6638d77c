-- A step of a network.
use Rattle.std.specs.Prelude.{◌≡◌, ◌≤◌, ◌<◌, ◌+◌, ℕ, Bool, true, false, List, length, Option, Some, None, Result, Ok, Err, ⊤}
use Rattle.mn_base.specs.Limits.{most_steps}
use Rattle.mn_topo.specs.Steps.{fits}
use Rattle.mn_topo.specs.declared.steps.Step.{Step}
use Rattle.mn_topo.specs.declared.steps.Step.TheVariants.{Carry, Lose}
use Rattle.mn_ledger.specs.declared.refused.Refused.{Refused}
use Rattle.mn_ledger.specs.declared.refused.Refused.TheVariants.{NoMemory}
use Rattle.mn_ledger.specs.OneMore.{with_packet}
use Rattle.mn_ledger.specs.Refusal.{refusal}
use Rattle.mn_timetable_laws.specs.Steps.{pushed}
use Rattle.mn_net_laws.specs.Now.{NetNow, StandsFor, HasRoom}
use Rattle.mn_ledger.specs.Time.{ticks_in}

-- done exactly where nothing refuses the step, and else the first cause; out of memory is free
abbrev pub Answers : {T : Type 0} → Option Refused → Result T Refused → Type 0
Answers cause (Ok done) = cause ≡ None
Answers cause (Err NoMemory) = ⊤
Answers cause (Err why) = cause ≡ Some why

-- refused by the first cause and no other, where that is told without memory
abbrev pub Refuses : {T : Type 0} → Option Refused → Result T Refused → Type 0
Refuses cause (Ok done) = cause ≡ None
Refuses cause (Err why) = cause ≡ Some why

-- one entry more, at the present tick; a step in which time passes moves the clock
pub record IsLonger (old new : NetNow) (step : Step) : Type 0 where
  pub topology : new.topology ≡ old.topology
  pub journal : new.journal ≡ pushed old.journal old.tick step
  pub tick : new.tick ≡ old.tick + ticks_in step
  pub room : length old.journal < most_steps
  pub made : old.made ≤ new.made

-- after running out of memory: the journal, verdicts and paths as before it
pub record HasFailed (old new : NetNow) : Type 0 where
  pub topology : new.topology ≡ old.topology
  pub journal : new.journal ≡ old.journal
  pub tick : new.tick ≡ old.tick
  pub failed : new.failed ≡ true
  pub verdicts : new.moving.verdicts ≡ old.moving.verdicts
  pub paths : new.moving.paths ≡ old.moving.paths

abbrev pub Leaves : {T : Type 0} → NetNow → NetNow → Result T Refused → Type 0
Leaves old new (Ok done) = ⊤
Leaves old new (Err NoMemory) = HasFailed old new
Leaves old new (Err why) = new ≡ old

-- the network works, and for all packets that it stands for nothing refuses the step
pub record MayBeDone (net : NetNow) (step : Step) (bytes : List ℕ) : Type 0 where
  pub works : net.failed ≡ false
  pub fitting : fits net.topology step ≡ true
  pub unrefused : (inputs : List (List ℕ)) → StandsFor net inputs → refusal net.topology net.journal inputs step bytes ≡ None

-- the step is done: it stands for the packets that it stood for, and the one that the step injects
pub record IsDone (old new : NetNow) (step : Step) (bytes : List ℕ) : Type 0 where
  pub longer : IsLonger old new step
  pub stands : (inputs : List (List ℕ)) → StandsFor old inputs → StandsFor new (with_packet step bytes inputs)

-- the step carries or loses a frame
abbrev pub is_of_frames : Step → Bool
is_of_frames (Carry l dir place) = true
is_of_frames (Lose l dir place) = true
is_of_frames _ = false

-- Memory isn't wanted where there is room, and a step that is done takes at most one of it.
abbrev pub TakesOne : {T : Type 0} → NetNow → NetNow → Result T Refused → Type 0
TakesOne old new (Ok done) = (more : ℕ) → HasRoom old (more + 1) → HasRoom new more
TakesOne old new (Err NoMemory) = HasRoom old 1 → ⊥
TakesOne old new (Err why) = ⊤

-- the same of the part of a step that does it, which nothing but memory stops
abbrev pub TakesRoom : {T E : Type 0} → NetNow → NetNow → Result T E → Type 0
TakesRoom old new (Ok done) = (more : ℕ) → HasRoom old (more + 1) → HasRoom new more
TakesRoom old new (Err why) = HasRoom old 1 → ⊥
