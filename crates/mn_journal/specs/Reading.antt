-- What a journal is read as.
use Rattle.std.specs.Prelude.{◌≡◌, ◌+◌, ℕ, Bool, true, false, not, take_while, List, [], ◌∷◌, ◌++◌, All, length, map, Option, Some, None, Result, Ok, Err}
use Rattle.std.specs.Prelude.{Vec, ⊤}
use Rattle.std.specs.Str.Lines.{lines}
use Rattle.std.specs.declared.alloc.Global.{Global}
use Rattle.mn_topo.specs.Network.{Network}
use Rattle.mn_topo.specs.declared.steps.JournalEntry.{JournalEntry}
use Rattle.mn_topo.specs.declared.steps.Damaged.TheVariants.{Undamaged}
use Rattle.mn_entry.specs.Damages.{entry_for}
use Rattle.mn_entry.specs.Entries.{entry_fits}
use Rattle.mn_text.specs.Numbers.{number_up_to}
use Rattle.mn_text.specs.Words.{words}
use Rattle.mn_script.specs.Lines.{line_says}
use Rattle.mn_script.specs.Words.{is_comment}
use Rattle.mn_script.specs.declared.command.Command.{Command}
use Rattle.mn_script.specs.declared.command.Command.TheVariants.{Do, Damage, Run, Drain, Flush, Show}
use Rattle.mn_script.specs.declared.refusal.ScriptRule.{ScriptRule}
use Rattle.mn_journal.specs.Lines.{text_of, IsEntry}
use Rattle.mn_journal.specs.declared.refusal.JournalBad.{JournalBad}
use Rattle.mn_journal.specs.declared.refusal.JournalBad.TheVariants.{BadLine, NoMemory}

-- the entry at a tick of the step or the damage that a script's line says, if it says one
abbrev pub entry_at : ℕ → Result (Option Command) ScriptRule → Option JournalEntry
entry_at tick (Ok (Some (Do step))) = Some (record { tick = tick; step = step; damaged = Undamaged })
entry_at tick (Ok (Some (Damage damage))) = Some (entry_for tick damage)
entry_at tick (Ok (Some (Run ticks))) = None
entry_at tick (Ok (Some (Drain most))) = None
entry_at tick (Ok (Some Flush)) = None
entry_at tick (Ok (Some (Show table))) = None
entry_at tick (Ok None) = None
entry_at tick (Err rule) = None

abbrev pub entry_with : Option ℕ → Result (Option Command) ScriptRule → Option JournalEntry
entry_with (Some tick) said = entry_at tick said
entry_with None said = None

-- the entry for which a line's words ask: a tick, and a step or a damage as in a script
abbrev pub asked_by : Network → List (List ℕ) → Option JournalEntry
asked_by network [] = None
asked_by network (tick ∷ ws) = entry_with (number_up_to tick 18446744073709551615) (line_says network (take_while (λ word. not (is_comment word)) ws))

-- the line is the text of the entry, for which it asks and which the topology has room for
pub record IsText (network : Network) (line : List ℕ) (entry : JournalEntry) : Type 0 where
  pub text : line ≡ text_of network entry
  pub fit : entry_fits network entry ≡ true
  pub asked : asked_by network (words line) ≡ Some entry

-- the line is the text of the entry, or it is the text of none
abbrev pub Says : Network → List ℕ → Option JournalEntry → Type 0
Says network line (Some entry) = IsText network line entry
Says network line None = (entry : JournalEntry) → IsEntry network entry → line ≡ text_of network entry → ⊥

-- the entry of the line's text comes behind the others, or the line is the text of none
abbrev pub Takes : Network → List ℕ → List JournalEntry → List JournalEntry → Bool → Type 0
Takes network line old new true = (entry : JournalEntry) × IsText network line entry × (new ≡ old ++ entry ∷ [])
Takes network line old new false = Says network line None × (new ≡ old)

-- each is one that the topology has room for
abbrev pub AllFit : Network → List JournalEntry → Type 0
AllFit network entries = All (λ entry. entry_fits network entry ≡ true) entries

-- the line of this number, from 1, is the text of no entry, and each line before it is the text of one
pub record IsFirstBad (network : Network) (bytes : List ℕ) (number : ℕ) : Type 0 where
  pub before : List JournalEntry
  pub line : List ℕ
  pub after : List (List ℕ)
  pub split : lines bytes ≡ map (text_of network) before ++ line ∷ after
  pub number_is : number ≡ length before + 1
  pub fit : AllFit network before
  pub bad : (entry : JournalEntry) → IsEntry network entry → line ≡ text_of network entry → ⊥

-- what is read: the entries of which the lines are the texts, in order, or the first line that is none. It may run out of memory
abbrev pub Reads : Result (Vec JournalEntry Global) JournalBad → Network → List ℕ → Type 0
Reads (Ok entries) network bytes = (lines bytes ≡ map (text_of network) entries.items) × AllFit network entries.items
Reads (Err (BadLine number)) network bytes = IsFirstBad network bytes number
Reads (Err NoMemory) network bytes = ⊤

-- the entries that were written, unless memory ran out
abbrev pub Again : Result (Vec JournalEntry Global) JournalBad → List JournalEntry → Type 0
Again (Ok read) entries = read.items ≡ entries
Again (Err (BadLine number)) entries = ⊥
Again (Err NoMemory) entries = ⊤
