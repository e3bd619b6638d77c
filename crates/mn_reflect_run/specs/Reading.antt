-- What reading a script tells.
use Rattle.std.specs.Prelude.{◌≡◌, ◌<◌, ℕ, true, false, List, length, All, Result, Ok, Err, ⊤}
use Rattle.mn_topo.specs.Network.{Network}
use Rattle.mn_topo.specs.VrfTable.{is_edge}
use Rattle.mn_base.specs.declared.numbers.NodeNo.{NodeNo}
use Rattle.mn_script.specs.declared.refusal.ScriptRule.{ScriptRule}
use Rattle.mn_script.specs.declared.refusal.ScriptBad.{ScriptBad}
use Rattle.mn_script.specs.declared.refusal.ScriptBad.TheVariants.{Refused, NoMemory}
use Rattle.mn_reflect_ledger_laws.specs.Picks.{is_reflector}
use Rattle.mn_reflect_ledger_laws.specs.Quiet.{AreReflectors}
use Rattle.mn_reflect_telling.specs.Mentions.{numbers_of}
use Rattle.mn_reflect_run.specs.declared.command.ReflectLine.{ReflectLine}
use Rattle.mn_reflect_run.specs.Language.{Script, command_fits}

-- the line of this number was read behind others, or a rule refuses it; out of memory is free
abbrev pub IsRead : ℕ → Result Script ScriptRule → Script → Result (Unit {0}) ScriptBad → Type 0
IsRead number read new (Ok done) = read ≡ Ok new
IsRead number read new (Err (Refused rule line)) = (read ≡ Err rule) × (line ≡ number)
IsRead number read new (Err NoMemory) = ⊤

-- a whole script was read, or the first rule with its line
abbrev pub ReadsScript : Result Script ScriptBad → Result Script (ScriptRule × ℕ) → Type 0
ReadsScript (Ok script) read = read ≡ Ok script
ReadsScript (Err (Refused rule line)) read = read ≡ Err (rule, line)
ReadsScript (Err NoMemory) read = ⊤

-- a node that may be a reflector behind these
pub record IsNew (network : Network) (reflectors : List NodeNo) (node : NodeNo) : Type 0 where
  pub there : node.0 < length network.loopbacks
  pub no_edge : is_edge network.vrfs node.0 ≡ false
  pub other : is_reflector (numbers_of reflectors) node.0 ≡ false

-- the reflectors are nodes that aren't edges, and there is room for what each line asks for
pub record IsLawfulScript (network : Network) (script : Script) : Type 0 where
  pub reflectors : AreReflectors network (numbers_of script.reflectors)
  pub fit : All (λ (line : ReflectLine). command_fits network (numbers_of script.reflectors) line.command ≡ true) script.lines
