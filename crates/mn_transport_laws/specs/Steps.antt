-- A step of the transport, in the ledger's words.
use Rattle.std.specs.Prelude.{◌≡◌, ◌<◌, ◌+◌, ℕ, Bool, true, false, List, ◌++◌, length}
use Rattle.std.specs.List.{Contains}
use Rattle.mn_topo.specs.Network.{Network}
use Rattle.mn_topo.specs.Steps.{fits}
use Rattle.mn_topo.specs.declared.steps.Step.{Step}
use Rattle.mn_topo.specs.declared.steps.Step.TheVariants.{Attach, Detach}
use Rattle.mn_topo.specs.declared.steps.JournalEntry.{JournalEntry}
use Rattle.mn_ledger.specs.World.{World, Message}
use Rattle.mn_ledger.specs.Ledger.{world_of, no_packets}
use Rattle.mn_ledger.specs.Transport.{is_transport}
use Rattle.mn_ledger.specs.Refusal.{is_unchanged, is_empty}
use Rattle.mn_ledger.specs.Lawful.{IsLawfulJournal}
use Rattle.mn_ledger.specs.Turns.{IsInTurn}
use Rattle.mn_ledger.specs.Items.{notices_in, numbered}
use Rattle.mn_ledger_laws.specs.Named.{NamesANode}
use Rattle.mn_transport_laws.specs.Carried.{Carried}
use Rattle.mn_timetable_laws.specs.Steps.{pushed, messages_now}
use Rattle.mn_timetable_laws.specs.Keys.{keys_in, keys_on, of_notices, of_messages, notices_leave, messages_leave}
use Rattle.mn_transport_laws.specs.Stands.{IsTransport}

-- The step's turn has come: it fits, changes something, and takes what is there; each session is in turn, each message names a
-- node, and few were sent. After a lawful journal a step has its turn that isn't refused.
pub record IsTurn (topology : Network) (world : World) (step : Step) : Type 0 where
  pub fitting : fits topology step ≡ true
  pub changes : is_unchanged world.config step ≡ false
  pub there : is_empty topology world no_packets step ≡ false
  pub turn : IsInTurn topology world
  pub named : (l end : ℕ) (message : Message) → Contains (world.sessions.said l end) message → NamesANode topology message
  pub few : (l end : ℕ) → length (world.sessions.said l end) < 4000000000

-- and so it is after a lawful journal
pub record HasTurn (topology : Network) (journal : List JournalEntry) (step : Step) : Type 0 where
  pub inputs : List (List ℕ)
  pub lawful : IsLawfulJournal topology journal inputs
  pub turn : IsTurn topology (world_of topology journal) step

-- the transport stands for a journal after which the step has its turn
pub record MayDo (topology : Network) (step : Step) (carried : Carried) : Type 0 where
  pub journal : List JournalEntry
  pub stands : IsTransport topology journal carried
  pub turn : HasTurn topology journal step

-- The step is done at this tick, and made so many items, numbered from this number on: notices first, and then messages.
pub record Did (topology : Network) (tick number : ℕ) (step : Step) (old new : Carried) (made : ℕ) : Type 0 where
  pub goes : (journal : List JournalEntry) → IsTransport topology journal old → HasTurn topology journal step →
      IsTransport topology (pushed journal tick step) new
  pub notices : keys_in new.notices
      ≡ notices_leave (length topology.loopbacks) step (keys_in old.notices) ++ keys_on (of_notices (length topology.loopbacks))
      (numbered topology tick number (notices_in topology step))
  pub messages : (journal : List JournalEntry) → IsTransport topology journal old → HasTurn topology journal step →
      keys_in new.messages
      ≡ messages_leave step (keys_in old.messages)
      ++ keys_on (of_messages topology) (numbered topology tick (number + length (notices_in topology step)) (messages_now topology journal step))
  pub count : (journal : List JournalEntry) → IsTransport topology journal old → HasTurn topology journal step →
      made ≡ length (notices_in topology step) + length (messages_now topology journal step)

-- the steps that change the transport
abbrev pub touches : Step → Bool
touches (Attach site) = true
touches (Detach site) = true
touches step = is_transport step
