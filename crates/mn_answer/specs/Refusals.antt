-- The line of an outcome that refuses.
use Rattle.std.specs.Prelude.{ℕ, List, [], ◌∷◌, codes}
use Rattle.std.specs.Fmt.{decimal}
use Rattle.mn_pcap.specs.declared.refusal.PcapRule.{PcapRule}
use Rattle.mn_pcap.specs.declared.refusal.PcapRule.TheVariants.{CutShort, IsPcapng, BadMagic, BadVersion, BadLinkType, BadRecord}
use Rattle.mn_topo_toml.specs.declared.refusal.TopoRule.{TopoRule}
use Rattle.mn_topo_toml.specs.declared.refusal.TopoRule.TheVariants.{NotToml, UnknownKey, MissingKey, WrongKind, BadName, TwiceNamed, NoSuchName, SelfLink}
use Rattle.mn_topo_toml.specs.declared.refusal.TopoRule.TheVariants.{TwiceLinked, TwiceLoopback, BadCost, BadDelay, TwiceRd, BadTarget, PrefixTaken, TooMany}
use Rattle.mn_topo_toml.specs.declared.refusal.Place.{Place}
use Rattle.mn_topo_toml.specs.declared.refusal.Place.TheVariants.{Top, Node, Link, Vrf, Site}
use Rattle.mn_script.specs.declared.refusal.ScriptRule.{ScriptRule}
use Rattle.mn_script.specs.declared.refusal.ScriptRule.TheVariants as script
use Rattle.mn_join_script.specs.declared.refusal.JointsRule.{JointsRule}
use Rattle.mn_join_script.specs.declared.refusal.JointsRule.TheVariants as joints
use Rattle.mn_lines.specs.Lines.{text}
use Rattle.mn_answer.specs.declared.outcome.Limit.{Limit}
use Rattle.mn_answer.specs.declared.outcome.Limit.TheVariants.{
  TopologyBytes,
  ScriptBytes,
  ScriptLines,
  CaptureBytes,
  CaptureRecords,
  Steps,
  JointsBytes,
  Pairs,
  SecondBytes,
}
use Rattle.mn_answer.specs.declared.outcome.Outcome.{Outcome}
use Rattle.mn_answer.specs.declared.outcome.Outcome.TheVariants.{Usage, BadTopology, BadScript, BadCapture, BadJoints, BadSecond, TooLarge}

-- a rule of topologies by its number and name
abbrev pub topo_rule_name : TopoRule → List ℕ
topo_rule_name NotToml = codes "T1 NotToml"
topo_rule_name UnknownKey = codes "T2 UnknownKey"
topo_rule_name MissingKey = codes "T3 MissingKey"
topo_rule_name WrongKind = codes "T4 WrongKind"
topo_rule_name BadName = codes "T5 BadName"
topo_rule_name TwiceNamed = codes "T6 TwiceNamed"
topo_rule_name NoSuchName = codes "T7 NoSuchName"
topo_rule_name SelfLink = codes "T8 SelfLink"
topo_rule_name TwiceLinked = codes "T9 TwiceLinked"
topo_rule_name TwiceLoopback = codes "T10 TwiceLoopback"
topo_rule_name BadCost = codes "T11 BadCost"
topo_rule_name BadDelay = codes "T12 BadDelay"
topo_rule_name TwiceRd = codes "T13 TwiceRd"
topo_rule_name BadTarget = codes "T14 BadTarget"
topo_rule_name PrefixTaken = codes "T15 PrefixTaken"
topo_rule_name TooMany = codes "T16 TooMany"

-- the top table, or an entry by its array and its index from 0
abbrev pub place_text : Place → List ℕ
place_text Top = codes "top"
place_text (Node index) = text (codes "node " ∷ decimal index ∷ [])
place_text (Link index) = text (codes "link " ∷ decimal index ∷ [])
place_text (Vrf index) = text (codes "vrf " ∷ decimal index ∷ [])
place_text (Site index) = text (codes "site " ∷ decimal index ∷ [])

-- a rule of scripts by its number and name
abbrev pub script_rule_name : ScriptRule → List ℕ
script_rule_name script.UnknownWord = codes "S1 UnknownWord"
script_rule_name script.WrongCount = codes "S2 WrongCount"
script_rule_name script.BadNumber = codes "S3 BadNumber"
script_rule_name script.NoSuchName = codes "S4 NoSuchName"
script_rule_name script.NotLinked = codes "S5 NotLinked"
script_rule_name script.NotEdge = codes "S6 NotEdge"

-- a rule of captures by its name
abbrev pub pcap_rule_name : PcapRule → List ℕ
pcap_rule_name CutShort = codes "CutShort"
pcap_rule_name IsPcapng = codes "IsPcapng"
pcap_rule_name BadMagic = codes "BadMagic"
pcap_rule_name BadVersion = codes "BadVersion"
pcap_rule_name BadLinkType = codes "BadLinkType"
pcap_rule_name BadRecord = codes "BadRecord"

-- a rule of lists of joints by its number and name
abbrev pub joints_rule_name : JointsRule → List ℕ
joints_rule_name joints.WrongCount = codes "J1 WrongCount"
joints_rule_name joints.NoSuchName = codes "J2 NoSuchName"
joints_rule_name joints.TwiceJoined = codes "J3 TwiceJoined"

-- the line of an input that passes a limit; it says of either topology of two the same
abbrev pub limit_line : Limit → List ℕ
limit_line TopologyBytes = codes "too large topology bytes\n"
limit_line ScriptBytes = codes "too large script bytes\n"
limit_line ScriptLines = codes "too large script lines\n"
limit_line CaptureBytes = codes "too large capture bytes\n"
limit_line CaptureRecords = codes "too large capture records\n"
limit_line Steps = codes "too large steps\n"
limit_line JointsBytes = codes "too large joints bytes\n"
limit_line Pairs = codes "too large pairs\n"
limit_line SecondBytes = codes "too large topology bytes\n"

-- the line of an outcome that refuses
abbrev pub refusal_line : Outcome → List ℕ
refusal_line Usage = codes "usage: mplsnet run TOPOLOGY SCRIPT CAPTURE FOLDER | check TOPOLOGY | generate NUMBER | flood TOPOLOGY SCRIPT | reflect TOPOLOGY SCRIPT | join TOPOLOGY1 TOPOLOGY2 JOINTS SCRIPT CAPTURE FOLDER | reach TOPOLOGY [FAILURES]\n"
refusal_line (BadTopology rule place) = text (codes "topology refused " ∷ topo_rule_name rule ∷ codes " at " ∷ place_text place ∷ codes "\n" ∷ [])
refusal_line (BadScript rule line) = text (codes "script refused " ∷ script_rule_name rule ∷ codes " at line " ∷ decimal line ∷ codes "\n" ∷ [])
refusal_line (BadCapture rule place) = text (codes "capture refused " ∷ pcap_rule_name rule ∷ codes " at byte " ∷ decimal place ∷ codes "\n" ∷ [])
refusal_line (BadJoints rule line) = text (codes "joints refused " ∷ joints_rule_name rule ∷ codes " at line " ∷ decimal line ∷ codes "\n" ∷ [])
refusal_line (BadSecond rule place) = text (codes "second topology refused " ∷ topo_rule_name rule ∷ codes " at " ∷ place_text place ∷ codes "\n" ∷ [])
refusal_line (TooLarge which limit) = limit_line which
refusal_line outcome = []
