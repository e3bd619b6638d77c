-- The lines of a script of the flood.
use Rattle.std.specs.Prelude.{ℕ, ◌==◌, if◌then◌else◌, nat_lt, Bool, true, List, length, map, Option, Some, None, option_map, Result, Ok, Err, codes}
use Rattle.mn_topo.specs.Network.{Network}
use Rattle.mn_script.specs.declared.refusal.ScriptRule.{ScriptRule}
use Rattle.mn_script.specs.declared.refusal.ScriptRule.TheVariants.{UnknownWord, WrongCount}
use Rattle.mn_script.specs.Rules.{◌>>=◌}
use Rattle.mn_script.specs.Words.{word_at, is_word, choice, counted}
use Rattle.mn_script.specs.Operands.{link_in}
use Rattle.mn_script.specs.Reading.{Says}
use Rattle.mn_flood_laws.specs.Course as course
use Rattle.mn_flood_laws.specs.Flood as event
use Rattle.mn_flood_run.specs.declared.command.FloodCommand.{FloodCommand}
use Rattle.mn_flood_run.specs.declared.command.FloodCommand.TheVariants as command
use Rattle.mn_flood_run.specs.declared.command.FloodLine.{FloodLine}

-- link up A B, link down A B
unfoldable pub link_line : Network → List (List ℕ) → Result FloodCommand ScriptRule
link_line network ws = do
  up ← choice ws (codes "up") (codes "down")
  full ← counted ws 4
  link ← link_in network (word_at ws 2) (word_at ws 3)
  Ok (command.Change link.0 up)

-- the second word is this one: it may be absent, and it may be another
abbrev pub second_word : List (List ℕ) → List ℕ → Result (Unit {0}) ScriptRule
second_word ws text = if length ws == 1 then Err WrongCount else if is_word ws 1 text then Ok tt else Err UnknownWord

-- hear flood A B: the first advert from A to B
unfoldable pub hear_line : Network → List (List ℕ) → Result FloodCommand ScriptRule
hear_line network ws = do
  named ← second_word ws (codes "flood")
  full ← counted ws 4
  link ← link_in network (word_at ws 2) (word_at ws 3)
  Ok (command.Hear link.0 link.1)

-- drain
unfoldable pub drain_line : List (List ℕ) → Result FloodCommand ScriptRule
drain_line ws = do
  full ← counted ws 1
  Ok command.Drain

-- the command of a line with words, by the first of them
unfoldable pub command_line : Network → List (List ℕ) → Result FloodCommand ScriptRule
command_line network ws =
    if is_word ws 0 (codes "link") then link_line network ws
    else if is_word ws 0 (codes "hear") then hear_line network ws
    else if is_word ws 0 (codes "drain") then drain_line ws
    else Err UnknownWord

-- the command of a line, none where it has no words
unfoldable pub line_says : Network → List (List ℕ) → Result (Option FloodCommand) ScriptRule
line_says network ws = if length ws == 0 then Ok None else command_line network ws >>= (λ found. Ok (Some found))

-- with the line's number
abbrev pub numbered : ℕ → Option FloodCommand → Option FloodLine
numbered number said = option_map (λ command. record { number = number; command = command }) said

abbrev pub flood_says : Network → Says FloodLine
flood_says network number words = line_says network words >>= (λ said. Ok (numbered number said))

-- the command names a link of the topology
abbrev pub command_fits : Network → FloodCommand → Bool
command_fits network (command.Change link up) = nat_lt link.0 (length network.links)
command_fits network (command.Hear link dir) = nat_lt link.0 (length network.links)
command_fits network command.Drain = true

-- the lines as the course of a flood has them
abbrev pub ordered : FloodCommand → course.FloodCommand
ordered (command.Change link up) = course.Do (event.Change link.0 up)
ordered (command.Hear link dir) = course.Do (event.Hear link.0 dir)
ordered command.Drain = course.Drain

abbrev pub order_of : FloodLine → course.FloodLine
order_of line = record { number = line.number; command = ordered line.command }

abbrev pub orders_of : List FloodLine → List course.FloodLine
orders_of lines = map order_of lines
