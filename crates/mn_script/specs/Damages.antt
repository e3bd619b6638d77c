-- The lines that name a damaged message.
use Rattle.std.specs.Prelude.{ℕ, if◌then◌else◌, List, Result, Ok, Err, codes}
use Rattle.mn_topo.specs.Network.{Network}
use Rattle.mn_topo.specs.declared.steps.Damage.{Damage}
use Rattle.mn_topo.specs.declared.steps.Damage.TheVariants.{Ldp, Bgp}
use Rattle.mn_script.specs.declared.refusal.ScriptRule.{ScriptRule}
use Rattle.mn_script.specs.Rules.{◌>>=◌}
use Rattle.mn_script.specs.Words.{word_at, choice, counted}
use Rattle.mn_script.specs.Operands.{number_in, link_in, edges_in}

-- damage ldp A B K: record K comes in place of the first message from A to B
unfoldable pub damage_ldp_line : Network → List (List ℕ) → ℕ → Result Damage ScriptRule
damage_ldp_line network ws number = do
  link ← link_in network (word_at ws 2) (word_at ws 3)
  Ok (Ldp link.0 link.1 number)

-- damage bgp A B K: record K comes in place of the first message from A to B
unfoldable pub damage_bgp_line : Network → List (List ℕ) → ℕ → Result Damage ScriptRule
damage_bgp_line network ws number = do
  edges ← edges_in network (word_at ws 2) (word_at ws 3)
  Ok (Bgp edges.0 edges.1 number)

unfoldable pub damage_line : Network → List (List ℕ) → Result Damage ScriptRule
damage_line network ws = do
  ldp ← choice ws (codes "ldp") (codes "bgp")
  full ← counted ws 5
  number ← number_in (word_at ws 4) 1 4294967295
  if ldp then damage_ldp_line network ws number else damage_bgp_line network ws number
