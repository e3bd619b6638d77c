-- A network whose journal has other marks.
use Rattle.std.specs.Prelude.{◌≡◌, ℕ, List, [], ◌∷◌, ◌++◌, map}
use Rattle.mn_topo.specs.declared.steps.Damaged.{Damaged}
use Rattle.mn_topo.specs.declared.steps.JournalEntry.{JournalEntry}
use Rattle.mn_damage.specs.Same.{unmarked}
use Rattle.mn_net_laws.specs.Now.{NetNow, StandsFor, IsNet}

-- with this journal it goes on to be a network, and to stand for the same packets
pub record IsStill (net : NetNow) (journal : List JournalEntry) : Type 0 where
  pub stands : (inputs : List (List ℕ)) → StandsFor net inputs → StandsFor (record net { journal = journal }) inputs
  pub is : IsNet net → IsNet (record net { journal = journal })

-- a journal that differs in marks alone changes nothing
abbrev pub ChangesNoNetwork : Type 0
ChangesNoNetwork = (net : NetNow) (journal : List JournalEntry) → map unmarked net.journal ≡ map unmarked journal → IsStill net journal

-- the entry with this mark
abbrev pub marked : JournalEntry → Damaged → JournalEntry
marked entry mark = record { tick = entry.tick; step = entry.step; damaged = mark }

-- the journal with this mark on its last entry
abbrev pub marked_last : List JournalEntry → Damaged → List JournalEntry
marked_last [] mark = []
marked_last (entry ∷ []) mark = marked entry mark ∷ []
marked_last (entry ∷ other ∷ entries) mark = entry ∷ marked_last (other ∷ entries) mark

-- of a journal with an entry more that entry alone is marked, and nothing but marks changes
pub record MarksTheLast (entries : List JournalEntry) (mark : Damaged) : Type 0 where
  pub pushed : (entry : JournalEntry) → marked_last (entries ++ entry ∷ []) mark ≡ entries ++ marked entry mark ∷ []
  pub same : map unmarked entries ≡ map unmarked (marked_last entries mark)

abbrev pub MarksLast : Type 0
MarksLast = (entries : List JournalEntry) (mark : Damaged) → MarksTheLast entries mark
