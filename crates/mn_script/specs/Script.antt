-- The commands of a script, or the first refused line.
use Rattle.std.specs.Prelude.{◌≡◌, ℕ, true, List, All, option_map, Option, Result, Ok}
use Rattle.mn_topo.specs.Network.{Network}
use Rattle.mn_script.specs.declared.refusal.ScriptRule.{ScriptRule}
use Rattle.mn_script.specs.declared.command.Command.{Command}
use Rattle.mn_script.specs.declared.command.Line.{Line}
use Rattle.mn_script.specs.Rules.{◌>>=◌}
use Rattle.mn_script.specs.Lines.{line_says, command_fits}
use Rattle.mn_script.specs.Reading.{Says, lines_of}

-- a command with the number of its line, none where nothing is said
abbrev pub numbered : ℕ → Option Command → Option Line
numbered number said = option_map (λ command. record { number = number; command = command }) said

-- what the line of a number says: its command with the number, none where it has no words, or the rule that refuses it
abbrev pub command_says : Network → Says Line
command_says network number words = line_says network words >>= (λ said. Ok (numbered number said))

-- the script that some bytes are: its lines are numbered from 1
abbrev pub script_of : Network → List ℕ → Result (List Line) (ScriptRule × ℕ)
script_of network bytes = lines_of (command_says network) 1 bytes

-- each command is one that the topology has room for
abbrev pub AllFit : Network → List Line → Type 0
AllFit network script = All (λ line. command_fits network line.command ≡ true) script
