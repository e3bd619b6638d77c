-- All lines, by their first word.
use Rattle.std.specs.Prelude.{ℕ, ◌==◌, ◌&&◌, if◌then◌else◌, nat_le, Bool, true, List, length, Option, Some, None, Result, Ok, Err, codes}
use Rattle.mn_base.specs.Limits.{most_steps}
use Rattle.mn_topo.specs.Network.{Network}
use Rattle.mn_entry.specs.Damages.{damage_fits}
use Rattle.mn_topo.specs.Steps.{fits, has_node, has_vrf}
use Rattle.mn_script.specs.declared.refusal.ScriptRule.{ScriptRule}
use Rattle.mn_script.specs.declared.refusal.ScriptRule.TheVariants.{UnknownWord, WrongCount}
use Rattle.mn_script.specs.declared.command.Command.{Command}
use Rattle.mn_script.specs.declared.command.Command.TheVariants as command
use Rattle.mn_script.specs.declared.command.Show.{Show}
use Rattle.mn_script.specs.declared.command.Show.TheVariants as table
use Rattle.mn_script.specs.Rules.{◌>>=◌}
use Rattle.mn_script.specs.Words.{word_at, is_word, counted}
use Rattle.mn_script.specs.Operands.{number_in, node_in, vrf_in}
use Rattle.mn_script.specs.Steps.{step_line}
use Rattle.mn_script.specs.Damages.{damage_line}

-- run T: ticks
unfoldable pub run_line : List (List ℕ) → Result Command ScriptRule
run_line ws = do
  full ← counted ws 2
  ticks ← number_in (word_at ws 1) 0 1000000
  Ok (command.Run ticks)

-- drain N: steps
unfoldable pub bounded_drain : List (List ℕ) → Result Command ScriptRule
bounded_drain ws = do
  full ← counted ws 2
  steps ← number_in (word_at ws 1) 0 most_steps
  Ok (command.Drain (Some steps))

-- drain N, or drain without a number, which has no bound
unfoldable pub drain_line : List (List ℕ) → Result Command ScriptRule
drain_line ws = if length ws == 1 then Ok (command.Drain None) else bounded_drain ws

-- flush
unfoldable pub flush_line : List (List ℕ) → Result Command ScriptRule
flush_line ws = do
  full ← counted ws 1
  Ok command.Flush

-- show links, show ldp, show bgp, show flight
unfoldable pub plain_show : List (List ℕ) → Show → Result Show ScriptRule
plain_show ws what = do
  full ← counted ws 2
  Ok what

-- show tree N
unfoldable pub show_tree : Network → List (List ℕ) → Result Show ScriptRule
show_tree network ws = do
  full ← counted ws 3
  node ← node_in network (word_at ws 2)
  Ok (table.Tree node)

-- show vrf VRF
unfoldable pub show_vrf : Network → List (List ℕ) → Result Show ScriptRule
show_vrf network ws = do
  full ← counted ws 3
  vrf ← vrf_in network (word_at ws 2)
  Ok (table.Vrf vrf)

-- show frame N K: the record of a capture, numbered from 1
unfoldable pub show_frame : Network → List (List ℕ) → Result Show ScriptRule
show_frame network ws = do
  full ← counted ws 4
  number ← number_in (word_at ws 3) 1 4294967295
  node ← node_in network (word_at ws 2)
  Ok (table.Frame node number)

-- the table that a line shows, by its second word, which may be absent
unfoldable pub show_line : Network → List (List ℕ) → Result Show ScriptRule
show_line network ws =
    if length ws == 1 then Err WrongCount
    else if is_word ws 1 (codes "links") then plain_show ws table.Links
    else if is_word ws 1 (codes "tree") then show_tree network ws
    else if is_word ws 1 (codes "ldp") then plain_show ws table.Ldp
    else if is_word ws 1 (codes "bgp") then plain_show ws table.Bgp
    else if is_word ws 1 (codes "vrf") then show_vrf network ws
    else if is_word ws 1 (codes "flight") then plain_show ws table.Flight
    else if is_word ws 1 (codes "frame") then show_frame network ws
    else Err UnknownWord

-- the step of a line, as a command
unfoldable pub do_line : Network → List (List ℕ) → Result Command ScriptRule
do_line network ws = do
  step ← step_line network ws
  Ok (command.Do step)

-- the damage of a line, as a command
unfoldable pub damaged_line : Network → List (List ℕ) → Result Command ScriptRule
damaged_line network ws = do
  damage ← damage_line network ws
  Ok (command.Damage damage)

-- the table of a line, as a command
unfoldable pub table_line : Network → List (List ℕ) → Result Command ScriptRule
table_line network ws = do
  what ← show_line network ws
  Ok (command.Show what)

-- the command of a line with words, by the first of them
unfoldable pub command_line : Network → List (List ℕ) → Result Command ScriptRule
command_line network ws =
    if is_word ws 0 (codes "run") then run_line ws
    else if is_word ws 0 (codes "drain") then drain_line ws
    else if is_word ws 0 (codes "flush") then flush_line ws
    else if is_word ws 0 (codes "show") then table_line network ws
    else if is_word ws 0 (codes "damage") then damaged_line network ws
    else do_line network ws

-- the command of a line, none where it has no words
unfoldable pub line_says : Network → List (List ℕ) → Result (Option Command) ScriptRule
line_says network ws = if length ws == 0 then Ok None else command_line network ws >>= (λ found. Ok (Some found))

-- the table is of a node or a VRF of the topology, and a record is from 1
abbrev pub show_fits : Network → Show → Bool
show_fits network table.Links = true
show_fits network (table.Tree node) = has_node network node
show_fits network table.Ldp = true
show_fits network table.Bgp = true
show_fits network (table.Vrf vrf) = has_vrf network vrf
show_fits network table.Flight = true
show_fits network (table.Frame node number) = has_node network node && nat_le 1 number

-- the command has numbers of the topology, at most 1,000,000 ticks and at most 4,000,000 steps
abbrev pub command_fits : Network → Command → Bool
command_fits network (command.Do step) = fits network step
command_fits network (command.Damage damage) = damage_fits network damage
command_fits network (command.Run ticks) = nat_le ticks 1000000
command_fits network (command.Drain None) = true
command_fits network (command.Drain (Some steps)) = nat_le steps most_steps
command_fits network command.Flush = true
command_fits network (command.Show what) = show_fits network what
