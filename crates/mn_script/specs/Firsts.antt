-- Which line of a script is refused first, and which commands its lines have.
use Rattle.std.specs.Prelude.{◌≡◌, ◌<◌, ◌+◌, ℕ, min, true, List, length, map, slice_index_or, Option, Some, None, Result, Ok, Err, is_ok}
use Rattle.std.specs.List.{filter_map, enumerate_from}
use Rattle.std.specs.Str.Lines.{lines}
use Rattle.mn_topo.specs.Network.{Network}
use Rattle.mn_script.specs.declared.refusal.ScriptRule.{ScriptRule}
use Rattle.mn_script.specs.declared.command.Command.{Command}
use Rattle.mn_script.specs.declared.command.Line.{Line}
use Rattle.mn_script.specs.Words.{line_words}
use Rattle.mn_script.specs.Lines.{line_says}

-- what each line says: its command, none where it has no words, or the rule that refuses it
abbrev pub all_say : Network → List (List ℕ) → List (Result (Option Command) ScriptRule)
all_say network texts = map (λ text. line_says network (line_words text)) texts

-- what the line at a place, from 0, says
abbrev pub says_at : Network → List ℕ → ℕ → Result (Option Command) ScriptRule
says_at network bytes k = slice_index_or (all_say network (lines bytes)) k (Ok None)

-- the number of the line at a place: from 1, and no more than 32 bits hold
abbrev pub number_at : ℕ → ℕ
number_at k = min (k + 1) 4294967295

-- the line at the place is refused by the rule, and no line before it by any
pub record IsFirstRefused (network : Network) (bytes : List ℕ) (k : ℕ) (rule : ScriptRule) : Type 0 where
  pub there : k < length (lines bytes)
  pub refused : says_at network bytes k ≡ Err rule
  pub earlier : (j : ℕ) → j < k → is_ok (says_at network bytes j) ≡ true

-- no line is refused
abbrev pub AllAreRead : Network → List ℕ → Type 0
AllAreRead network bytes = (k : ℕ) → k < length (lines bytes) → is_ok (says_at network bytes k) ≡ true

-- the command that the line at a place has, with the line's number
abbrev pub command_at : ℕ × Result (Option Command) ScriptRule → Option Line
command_at (k, Ok (Some command)) = Some (record { number = number_at k; command = command })
command_at (k, Ok None) = None
command_at (k, Err rule) = None

-- the commands of all lines that have one, in order
abbrev pub commands_in : Network → List ℕ → List Line
commands_in network bytes = filter_map command_at (enumerate_from 0 (all_say network (lines bytes)))
