-- What holds at each moment of a run: of the labels that nodes give, and of the frames in flight.
use Rattle.std.specs.Prelude.{◌≡◌, ◌<◌, ℕ, List, ◌∷◌, ◌++◌, length}
use Rattle.std.specs.List.{Contains}
use Rattle.mn_topo.specs.Dir.{Dir}
use Rattle.mn_topo.specs.Network.{Network}
use Rattle.mn_topo.specs.declared.steps.JournalEntry.{JournalEntry}
use Rattle.mn_ledger.specs.Packets.{Token, Packets, flying_on}
use Rattle.mn_ledger.specs.Ledger.{packets_of}
use Rattle.mn_ledger.specs.OneMore.{tick_from}
use Rattle.mn_ledger_laws.specs.Ages.{IsInItsLife}
use Rattle.mn_reuse_laws.specs.Laws.{AreSound, KeepsItsLabel, ChangesOnceFree}
use Rattle.mn_course_laws.specs.Course.{Past}

-- RFC 3031, section 3.14: after each entry no label of the node means two things; in the next one a FEC keeps its label unless it is
-- free, and the label that a FEC had comes to mean something else only where the FEC is free
pub record GivesLabels (topology : Network) (entries : List JournalEntry) (node : ℕ) : Type 0 where
  pub sound : (before later : List JournalEntry) → entries ≡ before ++ later → AreSound topology before node
  pub kept : (before later : List JournalEntry) (next : JournalEntry) → entries ≡ before ++ next ∷ later → KeepsItsLabel topology before next node
  pub changed : (before later : List JournalEntry) (next : JournalEntry) → entries ≡ before ++ next ∷ later → ChangesOnceFree topology before next node

abbrev pub AllGiveLabels : Network → List JournalEntry → Type 0
AllGiveLabels topology entries = (node : ℕ) → node < length topology.loopbacks → GivesLabels topology entries node

-- at this tick each frame that flies has been sent, and is no older than its link's life
abbrev pub AreInTheirLife : Network → Packets → ℕ → Type 0
AreInTheirLife topology packets tick =
    (l : ℕ) (dir : Dir) (token : Token) → l < length topology.links → Contains (flying_on packets l dir) token → IsInItsLife topology tick l token

-- as each entry is done, up to the tick of the next one, and up to the clock at the end
pub record FramesAreYoung (topology : Network) (past : Past) (inputs : List (List ℕ)) : Type 0 where
  pub since : (before later : List JournalEntry) → past.entries ≡ before ++ later →
      AreInTheirLife topology (packets_of topology before inputs) (tick_from 0 before)
  pub until : (before later : List JournalEntry) (next : JournalEntry) → past.entries ≡ before ++ next ∷ later →
      AreInTheirLife topology (packets_of topology before inputs) next.tick
  pub end : AreInTheirLife topology (packets_of topology past.entries inputs) past.clock
