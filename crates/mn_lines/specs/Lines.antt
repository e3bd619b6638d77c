-- The lines of the report. Words are joined by one space, numbers are plain decimals, and each line ends with LF.
use Rattle.std.specs.Prelude.{ℕ, List, [], ◌∷◌, ◌++◌, map, codes}
use Rattle.std.specs.Borrow.{Bor}
use Rattle.std.specs.List.{flat_map}
use Rattle.std.specs.Fmt.{decimal}
use Rattle.mn_drops.specs.declared.drops.Rule.{Rule}
use Rattle.mn_drops.specs.declared.drops.Rule.TheVariants.{SiteDown, NotIpv4, Malformed, Truncated, BadChecksum, TtlExpired, NotUnicast, NoRoute, NoLsp}
use Rattle.mn_drops.specs.declared.drops.Rule.TheVariants.{NoEntry, SiteGone, Lost, LinkCut, Overdue}
use Rattle.mn_base.specs.declared.numbers.NodeNo.{NodeNo}
use Rattle.mn_ledger.specs.declared.refused.Refused.{Refused}
use Rattle.mn_ledger.specs.declared.refused.Refused.TheVariants as why
use Rattle.mn_ledger.specs.declared.verdict.Verdict.{Verdict}
use Rattle.mn_ledger.specs.declared.verdict.Verdict.TheVariants.{Delivered, Dropped, Flying}
use Rattle.mn_lines.specs.Names.{NameLists, name_at, ends_at, sender_of, hearer_of}
use Rattle.mn_lines.specs.declared.lines.Sent.{Sent}
use Rattle.mn_lines.specs.declared.lines.Totals.{Totals}

-- pieces of text in one
abbrev pub text : List (List ℕ) → List ℕ
text [] = []
text (piece ∷ []) = piece
text (piece ∷ pieces) = piece ++ text pieces

-- pieces that are borrowed
abbrev pub pieces_of : List (Bor (List ℕ)) → List (List ℕ)
pieces_of borrowed = map (λ piece. piece.now) borrowed

-- a rule by its name
abbrev pub rule_name : Rule → List ℕ
rule_name SiteDown = codes "SiteDown"
rule_name NotIpv4 = codes "NotIpv4"
rule_name Malformed = codes "Malformed"
rule_name Truncated = codes "Truncated"
rule_name BadChecksum = codes "BadChecksum"
rule_name TtlExpired = codes "TtlExpired"
rule_name NotUnicast = codes "NotUnicast"
rule_name NoRoute = codes "NoRoute"
rule_name NoLsp = codes "NoLsp"
rule_name NoEntry = codes "NoEntry"
rule_name SiteGone = codes "SiteGone"
rule_name Lost = codes "Lost"
rule_name LinkCut = codes "LinkCut"
rule_name Overdue = codes "Overdue"

-- a cause by its name
abbrev pub cause_name : Refused → List ℕ
cause_name why.Unchanged = codes "Unchanged"
cause_name why.Empty = codes "Empty"
cause_name why.StillReads = codes "StillReads"
cause_name (why.PrefixTaken site) = codes "PrefixTaken"
cause_name why.NoRouteThere = codes "NoRouteThere"
cause_name why.RoutesFull = codes "RoutesFull"
cause_name why.TargetsFull = codes "TargetsFull"
cause_name why.LabelsSpent = codes "LabelsSpent"
cause_name why.NetFull = codes "NetFull"
cause_name why.TooManySteps = codes "TooManySteps"
cause_name why.NoMemory = codes "NoMemory"

-- and behind it the site that has the prefix
abbrev pub cause_text : List (List ℕ) → Refused → List ℕ
cause_text sites (why.PrefixTaken site) = text (codes "PrefixTaken " ∷ name_at sites site.0 ∷ [])
cause_text sites cause = cause_name cause

-- what became of a packet
unfoldable pub verdict_text : NameLists → Verdict → List ℕ
verdict_text names (Delivered ttl site copy) =
    text (codes "delivered " ∷ name_at names.sites site.0 ∷ codes " ttl " ∷ decimal ttl ∷ codes " copy " ∷ decimal copy ∷ [])
verdict_text names (Dropped rule node) = text (codes "dropped " ∷ rule_name rule ∷ codes " at " ∷ name_at names.nodes node.0 ∷ [])
verdict_text names (Flying link dir) =
    let ends = ends_at names.links link.0 in
    text (codes "flying " ∷ name_at names.nodes (sender_of ends dir) ∷ codes " " ∷ name_at names.nodes (hearer_of ends dir) ∷ [])

-- the nodes at which a packet was, each after a space
unfoldable pub path_text : NameLists → List NodeNo → List ℕ
path_text names path = flat_map (λ node. 32 ∷ name_at names.nodes node.0) path

-- which packet it is: its number, from 1, and what sent it
unfoldable pub sent_text : NameLists → ℕ → Sent → List ℕ
sent_text names number sent =
    text (codes "packet " ∷ decimal number ∷ codes " line " ∷ decimal sent.line ∷ codes " site " ∷ name_at names.sites sent.site.0 ∷ codes " record "
    ∷ decimal sent.record ∷ [])

-- the line of a packet
unfoldable pub packet_line : NameLists → ℕ → Sent → Verdict → List NodeNo → List ℕ
packet_line names number sent verdict path =
    text (sent_text names number sent ∷ codes " " ∷ verdict_text names verdict ∷ codes " path" ∷ path_text names path ∷ codes "\n" ∷ [])

-- the line of a script's line whose step was refused
unfoldable pub refused_line : ℕ → List ℕ → List ℕ
refused_line number cause = text (codes "line " ∷ decimal number ∷ codes " refused " ∷ cause ∷ codes "\n" ∷ [])

-- how many packets there were, and of each kind of verdict
unfoldable pub verdicts_text : Totals → List ℕ
verdicts_text totals =
    text (codes "packets " ∷ decimal totals.packets ∷ codes " delivered " ∷ decimal totals.delivered ∷ codes " dropped " ∷ decimal totals.dropped
    ∷ codes " flying " ∷ decimal totals.flying ∷ [])

-- the last line
unfoldable pub total_line : Totals → List ℕ
total_line totals =
    text (codes "total " ∷ verdicts_text totals ∷ codes " steps " ∷ decimal totals.steps ∷ codes " refused " ∷ decimal totals.refused ∷ codes " tick "
    ∷ decimal totals.tick ∷ codes "\n" ∷ [])
