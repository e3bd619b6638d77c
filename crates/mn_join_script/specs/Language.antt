-- The lines of a script of two networks.
use Rattle.std.specs.Prelude.{◌≡◌, ℕ, ◌&&◌, ◌||◌, if◌then◌else◌, Bool, true, false, List, [], ◌∷◌, Option, None, option_map, Result, Ok, Err, codes, ⊤}
use Rattle.std.specs.Str.{bytes_eq}
use Rattle.mn_topo.specs.Network.{Network}
use Rattle.mn_script.specs.declared.refusal.ScriptRule.{ScriptRule}
use Rattle.mn_script.specs.declared.refusal.ScriptRule.TheVariants.{UnknownWord}
use Rattle.mn_script.specs.declared.refusal.ScriptBad.{ScriptBad}
use Rattle.mn_script.specs.declared.refusal.ScriptBad.TheVariants.{Refused, NoMemory}
use Rattle.mn_script.specs.declared.command.Command.{Command}
use Rattle.mn_script.specs.declared.command.Command.TheVariants.{Run, Show}
use Rattle.mn_script.specs.Rules.{◌>>=◌}
use Rattle.mn_script.specs.Words.{is_word}
use Rattle.mn_script.specs.Lines as script
use Rattle.mn_script.specs.Reading.{Says}
use Rattle.mn_join_laws.specs.declared.leg.Which.{Which}
use Rattle.mn_join_laws.specs.declared.leg.Which.TheVariants.{First, Second}
use Rattle.mn_join_script.specs.declared.line.JoinLine.{JoinLine}

-- two networks play steps, `drain` and `flush`
abbrev pub is_played : Command → Bool
is_played (Run ticks) = false
is_played (Show table) = false
is_played command = true

-- what words say of a network: a line of its own script, other than `run` and `show`
abbrev pub network_says : Network → List (List ℕ) → Result (Option Command) ScriptRule
network_says network ws =
    if is_word ws 0 (codes "run") || is_word ws 0 (codes "show") then Err UnknownWord else script.line_says network ws

-- with the network's number and the line's
abbrev pub line_says : ℕ → Which → Result (Option Command) ScriptRule → Result (Option JoinLine) ScriptRule
line_says number which answer =
    answer >>= (λ said. Ok (option_map (λ command. record { number = number; which = which; command = command }) said))

-- the first word is the number of a network, and the others are for it
abbrev pub word_says : Network → Network → ℕ → List ℕ → List (List ℕ) → Result (Option JoinLine) ScriptRule
word_says first second number word others =
    if bytes_eq word (codes "1") then line_says number First (network_says first others)
    else if bytes_eq word (codes "2") then line_says number Second (network_says second others)
    else Err UnknownWord

-- what the words of a line say, by its number
abbrev pub join_says : Network → Network → Says JoinLine
join_says first second number [] = Ok None
join_says first second number (word ∷ others) = word_says first second number word others

-- what a reader answers of a line of this number: it may run out of memory
abbrev pub ReadsLine : {L : Type 0} → ℕ → Result (Option L) ScriptBad → Result (Option L) ScriptRule → Type 0
ReadsLine number (Ok read) defined = defined ≡ Ok read
ReadsLine number (Err (Refused rule line)) defined = (defined ≡ Err rule) × (line ≡ number)
ReadsLine number (Err NoMemory) defined = ⊤

-- the command has numbers of its network, and is one that two networks play
abbrev pub fits_in : Network → Command → Bool
fits_in network command = script.command_fits network command && is_played command

abbrev pub fits_which : Network → Network → Which → Command → Bool
fits_which first second First command = fits_in first command
fits_which first second Second command = fits_in second command

abbrev pub line_fits : Network → Network → JoinLine → Bool
line_fits first second line = fits_which first second line.which line.command
