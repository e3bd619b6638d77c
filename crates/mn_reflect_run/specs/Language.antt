-- The lines of a script of reflection: what each says behind the lines before it.
use Rattle.std.specs.Prelude.{ℕ, ◌==◌, ◌&&◌, if◌then◌else◌, nat_le, not, Bool, true, List, [], ◌∷◌, ◌++◌, length, Some, None, Result, Ok, Err, codes}
use Rattle.std.specs.Str.Lines.{lines}
use Rattle.mn_base.specs.Limits.{most_steps}
use Rattle.mn_base.specs.declared.numbers.NodeNo.{NodeNo}
use Rattle.mn_topo.specs.Network.{Network}
use Rattle.mn_topo.specs.Steps.{has_vrf}
use Rattle.mn_topo.specs.VrfTable.{is_edge}
use Rattle.mn_topo.specs.declared.steps.Step.{Step}
use Rattle.mn_topo.specs.declared.steps.Step.TheVariants.{BgpUp, BgpDown, HearBgp}
use Rattle.mn_script.specs.declared.refusal.ScriptRule.{ScriptRule}
use Rattle.mn_script.specs.declared.refusal.ScriptRule.TheVariants.{UnknownWord, WrongCount, NotEdge}
use Rattle.mn_script.specs.Rules.{◌>>=◌}
use Rattle.mn_script.specs.Words.{line_words, word_at, is_word, choice, counted}
use Rattle.mn_script.specs.Operands.{lesser, greater, number_in, node_in, vrf_in}
use Rattle.mn_script.specs.Steps.{route_line, import_line, export_line, site_line}
use Rattle.mn_script.specs.Reading.{number_after}
use Rattle.mn_reflect_ledger_laws.specs.Picks.{is_reflector}
use Rattle.mn_reflect_world_laws.specs.Steps.{may_peer, takes}
use Rattle.mn_reflect_telling.specs.Mentions.{numbers_of}
use Rattle.mn_reflect_run.specs.declared.command.ReflectCommand.{ReflectCommand}
use Rattle.mn_reflect_run.specs.declared.command.ReflectCommand.TheVariants as command
use Rattle.mn_reflect_run.specs.declared.command.ReflectLine.{ReflectLine}

-- what the lines so far say: the reflectors, in the order in which they were named, and what else was asked for
pub record Script : Type 0 where
  pub reflectors : List NodeNo
  pub lines : List ReflectLine

-- 1. The first lines

-- a reflector is no edge, is named once, and before anything else is asked for
abbrev pub may_be_named : Network → Script → NodeNo → Bool
may_be_named network script node =
    not (is_edge network.vrfs node.0) && (not (is_reflector (numbers_of script.reflectors) node.0) && length script.lines == 0)

-- reflector N
unfoldable pub reflector_line : Network → Script → List (List ℕ) → Result NodeNo ScriptRule
reflector_line network script ws = do
  full ← counted ws 2
  node ← node_in network (word_at ws 1)
  if may_be_named network script node then Ok node else Err NotEdge

-- 2. The lines that name a step

-- two nodes that may have a session: a reflector and an edge, or two reflectors
unfoldable pub peers_in : Network → List ℕ → List ℕ → List ℕ → Result (NodeNo × NodeNo) ScriptRule
peers_in network reflectors a b = do
  one ← node_in network a
  other ← node_in network b
  if may_peer network reflectors one.0 other.0 then Ok (one, other) else Err NotEdge

-- bgp up A B, bgp down A B: the step has the lesser number first
unfoldable pub bgp_line : Network → List ℕ → List (List ℕ) → Result Step ScriptRule
bgp_line network reflectors ws = do
  up ← choice ws (codes "up") (codes "down")
  full ← counted ws 4
  peers ← peers_in network reflectors (word_at ws 2) (word_at ws 3)
  Ok (if up then BgpUp (lesser peers.0 peers.1) (greater peers.0 peers.1) else BgpDown (lesser peers.0 peers.1) (greater peers.0 peers.1))

-- the second word is this one: it may be absent, and it may be another
abbrev pub second_word : List (List ℕ) → List ℕ → Result (Unit {0}) ScriptRule
second_word ws text = if length ws == 1 then Err WrongCount else if is_word ws 1 text then Ok tt else Err UnknownWord

-- hear bgp A B: the first message from A to B
unfoldable pub hear_line : Network → List ℕ → List (List ℕ) → Result Step ScriptRule
hear_line network reflectors ws = do
  named ← second_word ws (codes "bgp")
  full ← counted ws 4
  peers ← peers_in network reflectors (word_at ws 2) (word_at ws 3)
  Ok (HearBgp peers.0 peers.1)

-- the step of a line, by its first word
unfoldable pub step_line : Network → List ℕ → List (List ℕ) → Result Step ScriptRule
step_line network reflectors ws =
    if is_word ws 0 (codes "bgp") then bgp_line network reflectors ws
    else if is_word ws 0 (codes "hear") then hear_line network reflectors ws
    else if is_word ws 0 (codes "route") then route_line network ws
    else if is_word ws 0 (codes "import") then import_line network ws
    else if is_word ws 0 (codes "export") then export_line network ws
    else if is_word ws 0 (codes "site") then site_line network ws
    else Err UnknownWord

unfoldable pub do_line : Network → List ℕ → List (List ℕ) → Result ReflectCommand ScriptRule
do_line network reflectors ws = do
  step ← step_line network reflectors ws
  Ok (command.Do step)

-- 3. All other lines

-- drain N: hearings
unfoldable pub bounded_drain : List (List ℕ) → Result ReflectCommand ScriptRule
bounded_drain ws = do
  full ← counted ws 2
  steps ← number_in (word_at ws 1) 0 most_steps
  Ok (command.Drain (Some steps))

-- drain N, or drain without a number, which has no bound
unfoldable pub drain_line : List (List ℕ) → Result ReflectCommand ScriptRule
drain_line ws = if length ws == 1 then Ok (command.Drain None) else bounded_drain ws

-- show vrf VRF
unfoldable pub show_line : Network → List (List ℕ) → Result ReflectCommand ScriptRule
show_line network ws = do
  named ← second_word ws (codes "vrf")
  full ← counted ws 3
  vrf ← vrf_in network (word_at ws 2)
  Ok (command.Show vrf)

-- what a line asks for, by its first word
unfoldable pub command_line : Network → List ℕ → List (List ℕ) → Result ReflectCommand ScriptRule
command_line network reflectors ws =
    if is_word ws 0 (codes "drain") then drain_line ws
    else if is_word ws 0 (codes "show") then show_line network ws
    else do_line network reflectors ws

-- 4. Line by line

abbrev pub with_reflector : Script → NodeNo → Script
with_reflector script node = record script { reflectors = script.reflectors ++ node ∷ [] }

abbrev pub with_command : Script → ℕ → ReflectCommand → Script
with_command script number asked = record script { lines = script.lines ++ record { number = number; command = asked } ∷ [] }

-- a line that begins with `reflector` names one more, and another asks for something
abbrev pub reflector_said : Network → List (List ℕ) → Script → Result Script ScriptRule
reflector_said network ws script = reflector_line network script ws >>= (λ node. Ok (with_reflector script node))

abbrev pub command_said : Network → ℕ → List (List ℕ) → Script → Result Script ScriptRule
command_said network number ws script = command_line network (numbers_of script.reflectors) ws >>= (λ asked. Ok (with_command script number asked))

-- one without words says nothing
unfoldable pub with_line : Network → ℕ → List (List ℕ) → Script → Result Script ScriptRule
with_line network number ws script =
    if length ws == 0 then Ok script
    else if is_word ws 0 (codes "reflector") then reflector_said network ws script
    else command_said network number ws script

-- the line of this number, and then those behind it
abbrev pub followed : ℕ → Result Script ScriptRule → (Script → Result Script (ScriptRule × ℕ)) → Result Script (ScriptRule × ℕ)
followed number (Ok script) more = more script
followed number (Err rule) more = Err (rule, number)

-- the lines behind those that are read, from this number on, or the first rule with its line
abbrev pub read_from : Network → ℕ → Script → List (List ℕ) → Result Script (ScriptRule × ℕ)
read_from network number script [] = Ok script
read_from network number script (text ∷ more) =
    followed number (with_line network number (line_words text) script) (λ read. read_from network (number_after number) read more)

abbrev pub no_lines : Script
no_lines = record { reflectors = []; lines = [] }

-- the script that some bytes are: its lines are numbered from 1
abbrev pub script_of : Network → List ℕ → Result Script (ScriptRule × ℕ)
script_of network bytes = read_from network 1 no_lines (lines bytes)

-- 5. There is room for what is asked for

-- the step is one that nodes with these reflectors take, and the VRF is there
abbrev pub command_fits : Network → List ℕ → ReflectCommand → Bool
command_fits network reflectors (command.Do step) = takes network reflectors step
command_fits network reflectors (command.Drain None) = true
command_fits network reflectors (command.Drain (Some steps)) = nat_le steps most_steps
command_fits network reflectors (command.Show vrf) = has_vrf network vrf
