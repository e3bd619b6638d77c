-- The lines of a journal.
use Rattle.std.specs.Prelude.{◌≡◌, ◌<◌, ◌^◌, ℕ, true, List, [], ◌∷◌, ◌++◌, map, Option, Some, None, ⊤}
use Rattle.std.specs.Borrow.{Bor}
use Rattle.mn_text.specs.Numbers.{number_text}
use Rattle.mn_topo.specs.Network.{Network}
use Rattle.mn_topo.specs.declared.steps.Step.{Step}
use Rattle.mn_topo.specs.declared.steps.Damage.{Damage}
use Rattle.mn_topo.specs.declared.steps.Damaged.{Damaged}
use Rattle.mn_topo.specs.declared.steps.JournalEntry.{JournalEntry}
use Rattle.mn_topo.specs.declared.steps.Damaged.TheVariants.{Undamaged, Forth, Back}
use Rattle.mn_entry.specs.Damages.{damage_by}
use Rattle.mn_entry.specs.Entries.{entry_fits}
use Rattle.mn_script.specs.Spelled.{step_words, damage_words, IsStep}

-- words, each after a space
abbrev pub spaced : List (List ℕ) → List ℕ
spaced [] = []
spaced (word ∷ words) = 32 ∷ (word ++ spaced words)

-- pieces, one behind another
abbrev pub joined : List (List ℕ) → List ℕ
joined [] = []
joined (piece ∷ pieces) = piece ++ joined pieces

-- the words of a script that ask for an entry: for its step, or for the damage that made it
abbrev pub told_words : Network → Option Damage → List (List ℕ)
told_words network None = []
told_words network (Some damage) = damage_words network damage

abbrev pub done_words : Network → Step → Damaged → List (List ℕ)
done_words network step Undamaged = step_words network step
done_words network step mark = told_words network (damage_by step mark)

abbrev pub entry_words : Network → JournalEntry → List (List ℕ)
entry_words network entry = done_words network entry.step entry.damaged

-- what a line says: the tick, and then the entry in the words of a script
abbrev pub text_of : Network → JournalEntry → List ℕ
text_of network entry = number_text entry.tick ++ spaced (entry_words network entry)

-- the line, with its line feed
abbrev pub line_of : Network → JournalEntry → List ℕ
line_of network entry = text_of network entry ++ 10 ∷ []

-- a record is a number of 32 bits
abbrev pub IsMark : Damaged → Type 0
IsMark Undamaged = ⊤
IsMark (Forth number) = number < 2 ^ 32
IsMark (Back number) = number < 2 ^ 32

-- a step or a damage that the topology has room for, at a tick of 64 bits
pub record IsEntry (network : Network) (entry : JournalEntry) : Type 0 where
  pub tick : entry.tick < 2 ^ 64
  pub fit : entry_fits network entry ≡ true
  pub step : IsStep entry.step
  pub mark : IsMark entry.damaged

-- the texts that are borrowed
abbrev pub texts : List (Bor (List ℕ)) → List (List ℕ)
texts borrowed = map (λ word. word.now) borrowed

-- with some bytes behind it, or none
pub record Grew (old new : List ℕ) : Type 0 where
  pub more : List ℕ
  pub new_is : new ≡ old ++ more
