-- What the words of a line name: S3 to S6.
use Rattle.std.specs.Prelude.{ℕ, nat_le, min, max, if◌then◌else◌, List, Some, None, option_and_then, Result, Ok, Err}
use Rattle.std.specs.Result.{result_ok}
use Rattle.mn_wiring.specs.declared.links.Dir.{Dir}
use Rattle.mn_base.specs.declared.numbers.NodeNo.{NodeNo}
use Rattle.mn_base.specs.declared.numbers.LinkNo.{LinkNo}
use Rattle.mn_base.specs.declared.numbers.VrfNo.{VrfNo}
use Rattle.mn_base.specs.declared.numbers.SiteNo.{SiteNo}
use Rattle.mn_base.specs.declared.numbers.Rt.{Rt}
use Rattle.mn_prefix.specs.Prefix.{AddressBlock}
use Rattle.mn_text.specs.Numbers.{number_up_to}
use Rattle.mn_text.specs.Addresses.{prefix_of}
use Rattle.mn_text.specs.Pairs.{rt_of}
use Rattle.mn_topo.specs.Network.{Network, node_named, vrf_named, site_named, link_of}
use Rattle.mn_topo.specs.Steps.{are_edges}
use Rattle.mn_script.specs.declared.refusal.ScriptRule.{ScriptRule}
use Rattle.mn_script.specs.declared.refusal.ScriptRule.TheVariants.{BadNumber, NoSuchName, NotLinked, NotEdge}
use Rattle.mn_script.specs.Rules.{◌>>=◌, or_rule}

-- a number from `least` to `most`
abbrev pub number_in : List ℕ → ℕ → ℕ → Result ℕ ScriptRule
number_in word least most = or_rule BadNumber (option_and_then (λ n. if nat_le least n then Some n else None) (number_up_to word most))

-- a prefix
abbrev pub prefix_in : List ℕ → Result AddressBlock ScriptRule
prefix_in word = or_rule BadNumber (result_ok (prefix_of word))

-- a route target
abbrev pub target_in : List ℕ → Result Rt ScriptRule
target_in word = or_rule BadNumber (rt_of word)

-- the node, the VRF, the site of the name
abbrev pub node_in : Network → List ℕ → Result NodeNo ScriptRule
node_in network word = or_rule NoSuchName (node_named network word)

abbrev pub vrf_in : Network → List ℕ → Result VrfNo ScriptRule
vrf_in network word = or_rule NoSuchName (vrf_named network word)

abbrev pub site_in : Network → List ℕ → Result SiteNo ScriptRule
site_in network word = or_rule NoSuchName (site_named network word)

-- the link between two nodes, and its direction from the first to the second
unfoldable pub link_in : Network → List ℕ → List ℕ → Result (LinkNo × Dir) ScriptRule
link_in network a b = do
  from ← node_in network a
  to ← node_in network b
  or_rule NotLinked (link_of network from.0 to.0)

-- two different edges
unfoldable pub edges_in : Network → List ℕ → List ℕ → Result (NodeNo × NodeNo) ScriptRule
edges_in network a b = do
  one ← node_in network a
  other ← node_in network b
  if are_edges network one other then Ok (one, other) else Err NotEdge

-- of two nodes the one of lesser number
abbrev pub lesser : NodeNo → NodeNo → NodeNo
lesser one other = record { 0 = min one.0 other.0 }

-- of two nodes the one of greater number
abbrev pub greater : NodeNo → NodeNo → NodeNo
greater one other = record { 0 = max one.0 other.0 }
