-- The lines that name a step, a row of the table each.
use Rattle.std.specs.Prelude.{ℕ, Bool, if◌then◌else◌, List, Result, Ok, Err, codes}
use Rattle.mn_wiring.specs.declared.links.Dir.{Dir}
use Rattle.mn_base.specs.declared.numbers.LinkNo.{LinkNo}
use Rattle.mn_base.specs.declared.numbers.VrfNo.{VrfNo}
use Rattle.mn_base.specs.declared.numbers.Rt.{Rt}
use Rattle.mn_topo.specs.declared.steps.Step.{Step}
use Rattle.mn_topo.specs.declared.steps.Step.TheVariants.{LinkUp, LinkDown, Learn, LdpAdmin, HearLdp, BgpUp, BgpDown, HearBgp, AddRoute, DelRoute, Import}
use Rattle.mn_topo.specs.declared.steps.Step.TheVariants.{Export, Attach, Detach, Inject, Carry, Lose, Tick}
use Rattle.mn_topo.specs.Network.{Network}
use Rattle.mn_script.specs.declared.refusal.ScriptRule.{ScriptRule}
use Rattle.mn_script.specs.declared.refusal.ScriptRule.TheVariants.{UnknownWord}
use Rattle.mn_script.specs.Rules.{◌>>=◌}
use Rattle.mn_script.specs.Words.{word_at, is_word, choice, counted}
use Rattle.mn_script.specs.Operands.{lesser, greater, number_in, prefix_in, target_in, node_in, vrf_in, site_in, link_in, edges_in}

-- link up A B, link down A B
unfoldable pub link_line : Network → List (List ℕ) → Result Step ScriptRule
link_line network ws = do
  up ← choice ws (codes "up") (codes "down")
  full ← counted ws 4
  link ← link_in network (word_at ws 2) (word_at ws 3)
  Ok (if up then LinkUp link.0 else LinkDown link.0)

-- learn N A B
unfoldable pub learn_line : Network → List (List ℕ) → Result Step ScriptRule
learn_line network ws = do
  full ← counted ws 4
  node ← node_in network (word_at ws 1)
  link ← link_in network (word_at ws 2) (word_at ws 3)
  Ok (Learn node link.0)

-- ldp on A B, ldp off A B
unfoldable pub ldp_line : Network → List (List ℕ) → Result Step ScriptRule
ldp_line network ws = do
  on ← choice ws (codes "on") (codes "off")
  full ← counted ws 4
  link ← link_in network (word_at ws 2) (word_at ws 3)
  Ok (LdpAdmin link.0 on)

-- hear ldp A B: the first message from A to B
unfoldable pub hear_ldp_line : Network → List (List ℕ) → Result Step ScriptRule
hear_ldp_line network ws = do
  link ← link_in network (word_at ws 2) (word_at ws 3)
  Ok (HearLdp link.0 link.1)

-- hear bgp A B: the first message from A to B
unfoldable pub hear_bgp_line : Network → List (List ℕ) → Result Step ScriptRule
hear_bgp_line network ws = do
  edges ← edges_in network (word_at ws 2) (word_at ws 3)
  Ok (HearBgp edges.0 edges.1)

unfoldable pub hear_line : Network → List (List ℕ) → Result Step ScriptRule
hear_line network ws = do
  ldp ← choice ws (codes "ldp") (codes "bgp")
  full ← counted ws 4
  if ldp then hear_ldp_line network ws else hear_bgp_line network ws

-- bgp up A B, bgp down A B: the step has the lesser number first
unfoldable pub bgp_line : Network → List (List ℕ) → Result Step ScriptRule
bgp_line network ws = do
  up ← choice ws (codes "up") (codes "down")
  full ← counted ws 4
  edges ← edges_in network (word_at ws 2) (word_at ws 3)
  Ok (if up then BgpUp (lesser edges.0 edges.1) (greater edges.0 edges.1) else BgpDown (lesser edges.0 edges.1) (greater edges.0 edges.1))

-- route add SITE PREFIX, route del SITE PREFIX
unfoldable pub route_line : Network → List (List ℕ) → Result Step ScriptRule
route_line network ws = do
  add ← choice ws (codes "add") (codes "del")
  full ← counted ws 4
  prefix ← prefix_in (word_at ws 3)
  site ← site_in network (word_at ws 2)
  Ok (if add then AddRoute site prefix else DelRoute site prefix)

-- add VRF TARGET, del VRF TARGET, behind the first word: the VRF, the target, and whether it is added
unfoldable pub target_operands : Network → List (List ℕ) → Result (VrfNo × Rt × Bool) ScriptRule
target_operands network ws = do
  add ← choice ws (codes "add") (codes "del")
  full ← counted ws 4
  target ← target_in (word_at ws 3)
  vrf ← vrf_in network (word_at ws 2)
  Ok (vrf, target, add)

-- import add VRF TARGET, import del VRF TARGET
unfoldable pub import_line : Network → List (List ℕ) → Result Step ScriptRule
import_line network ws = do
  found ← target_operands network ws
  Ok (Import found.0 found.2 found.1)

-- export add VRF TARGET, export del VRF TARGET
unfoldable pub export_line : Network → List (List ℕ) → Result Step ScriptRule
export_line network ws = do
  found ← target_operands network ws
  Ok (Export found.0 found.2 found.1)

-- site up SITE, site down SITE
unfoldable pub site_line : Network → List (List ℕ) → Result Step ScriptRule
site_line network ws = do
  up ← choice ws (codes "up") (codes "down")
  full ← counted ws 3
  site ← site_in network (word_at ws 2)
  Ok (if up then Attach site else Detach site)

-- inject SITE K: the record of a capture, numbered from 1
unfoldable pub inject_line : Network → List (List ℕ) → Result Step ScriptRule
inject_line network ws = do
  full ← counted ws 3
  k ← number_in (word_at ws 2) 1 4294967295
  site ← site_in network (word_at ws 1)
  Ok (Inject site k)

-- A B PLACE, behind the first word: the link, its direction from A to B, and the place of a frame there, numbered from 0
unfoldable pub frame_operands : Network → List (List ℕ) → Result (LinkNo × Dir × ℕ) ScriptRule
frame_operands network ws = do
  full ← counted ws 4
  place ← number_in (word_at ws 3) 0 4294967295
  link ← link_in network (word_at ws 1) (word_at ws 2)
  Ok (link.0, link.1, place)

-- carry A B PLACE
unfoldable pub carry_line : Network → List (List ℕ) → Result Step ScriptRule
carry_line network ws = do
  found ← frame_operands network ws
  Ok (Carry found.0 found.1 found.2)

-- lose A B PLACE
unfoldable pub lose_line : Network → List (List ℕ) → Result Step ScriptRule
lose_line network ws = do
  found ← frame_operands network ws
  Ok (Lose found.0 found.1 found.2)

-- tick T: the ticks for which time passes, at most those of any line
unfoldable pub tick_line : List (List ℕ) → Result Step ScriptRule
tick_line ws = do
  full ← counted ws 2
  ticks ← number_in (word_at ws 1) 1 1000000
  Ok (Tick ticks)

-- the step of a line, by its first word
unfoldable pub step_line : Network → List (List ℕ) → Result Step ScriptRule
step_line network ws =
    if is_word ws 0 (codes "link") then link_line network ws
    else if is_word ws 0 (codes "learn") then learn_line network ws
    else if is_word ws 0 (codes "ldp") then ldp_line network ws
    else if is_word ws 0 (codes "hear") then hear_line network ws
    else if is_word ws 0 (codes "bgp") then bgp_line network ws
    else if is_word ws 0 (codes "route") then route_line network ws
    else if is_word ws 0 (codes "import") then import_line network ws
    else if is_word ws 0 (codes "export") then export_line network ws
    else if is_word ws 0 (codes "site") then site_line network ws
    else if is_word ws 0 (codes "inject") then inject_line network ws
    else if is_word ws 0 (codes "carry") then carry_line network ws
    else if is_word ws 0 (codes "lose") then lose_line network ws
    else if is_word ws 0 (codes "tick") then tick_line ws
    else Err UnknownWord
