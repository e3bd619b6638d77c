-- One item arrives, with any packets: what a line does step by step.
use Rattle.std.specs.Prelude.{◌≡◌, ℕ, true, false, List, Option, Some, None, Result, Ok, Err}
use Rattle.mn_course_laws.specs.declared.coming.Arrivals.{Arrivals}
use Rattle.mn_course_laws.specs.declared.coming.Coming.{Coming}
use Rattle.mn_course_laws.specs.Coming.{next_arrival}
use Rattle.mn_course_laws.specs.Course.{arrived, is_journal_full}
use Rattle.mn_ledger.specs.declared.refused.Refused as why
use Rattle.mn_ledger.specs.declared.refused.Refused.TheVariants as cause
use Rattle.mn_net.specs.declared.net.Done.{Done}
use Rattle.mn_net.specs.Now.{NetNow, StandsFor}
use Rattle.mn_sched.specs.Playing.{past_of}

-- the item that comes next was delivered, and the network stands for the same packets
pub record ArrivedNext (old new : NetNow) (inputs : List (List ℕ)) (arrivals : Arrivals) (item : Coming) : Type 0 where
  pub comes : next_arrival old.topology old.journal inputs arrivals ≡ Some item
  pub room : is_journal_full (past_of old) ≡ false
  pub past : past_of new ≡ arrived arrivals (past_of old) item
  pub stands : StandsFor new inputs
  pub topology : new.topology ≡ old.topology

-- the journal was full
pub record StoppedNext (old new : NetNow) (inputs : List (List ℕ)) (arrivals : Arrivals) (item : Coming) : Type 0 where
  pub comes : next_arrival old.topology old.journal inputs arrivals ≡ Some item
  pub full : is_journal_full (past_of old) ≡ true
  pub journal : new.journal ≡ old.journal
  pub stands : StandsFor new inputs
  pub topology : new.topology ≡ old.topology

abbrev pub ArrivesNext : NetNow → NetNow → List (List ℕ) → Arrivals → Option (Result Done why.Refused) → Type 0
ArrivesNext old new inputs arrivals None = (next_arrival old.topology old.journal inputs arrivals ≡ None) × (new ≡ old)
ArrivesNext old new inputs arrivals (Some (Ok done)) = (item : Coming) × ArrivedNext old new inputs arrivals item
ArrivesNext old new inputs arrivals (Some (Err cause.TooManySteps)) = (item : Coming) × StoppedNext old new inputs arrivals item
ArrivesNext old new inputs arrivals (Some (Err cause.NoMemory)) = (new.journal ≡ old.journal) × (new.topology ≡ old.topology)
ArrivesNext old new inputs arrivals (Some (Err refused)) = ⊥
