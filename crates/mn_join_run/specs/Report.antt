-- The report of two joined networks, and the file of what came out.
use Rattle.std.specs.Prelude.{ℕ, ◌+◌, ◌-◌, Bool, true, false, cond, List, [], ◌∷◌, ◌++◌, map, length, count_by, slice_index_or, Option, Some, None, codes}
use Rattle.std.specs.List.{flat_map, range_with_len}
use Rattle.std.specs.Fmt.{decimal}
use Rattle.mn_base.specs.declared.numbers.SiteNo.{SiteNo}
use Rattle.mn_topo.specs.declared.steps.Step.{Step}
use Rattle.mn_topo.specs.declared.steps.Step.TheVariants.{Inject}
use Rattle.mn_topo.specs.declared.steps.JournalEntry.{JournalEntry}
use Rattle.mn_pcap.specs.Format.{header, record_of}
use Rattle.mn_ledger.specs.declared.refused.Refused.{Refused}
use Rattle.mn_ledger.specs.declared.verdict.Verdict.{Verdict}
use Rattle.mn_ledger.specs.declared.verdict.Verdict.TheVariants.{Delivered, Dropped, Flying}
use Rattle.mn_ledger.specs.Verdicts.{verdict_on}
use Rattle.mn_course_laws.specs.Expansion.{SentLine}
use Rattle.mn_lines.specs.Names.{NameLists, names_of, name_at, ends_at, sender_of, hearer_of}
use Rattle.mn_lines.specs.Lines.{text, rule_name, cause_name, refused_line}
use Rattle.mn_join_laws.specs.declared.leg.Which.{Which}
use Rattle.mn_join_laws.specs.declared.leg.Which.TheVariants.{First, Second}
use Rattle.mn_join_laws.specs.declared.leg.Leg.{Leg}
use Rattle.mn_join_laws.specs.Pairing.{Pairing, network, Both, side, packets_in, Travel, travel}
use Rattle.mn_join_laws.specs.Course.{Exit}
use Rattle.mn_join_run.specs.declared.ends.End.{End}
use Rattle.mn_join_run.specs.declared.ends.End.TheVariants as end
use Rattle.mn_join_run.specs.declared.ends.Totals.{Totals}
use Rattle.mn_join_run.specs.Course.{RefusedLine, JoinRun}

-- 1. The end of a packet

-- the leg that was sent last
abbrev pub last_leg : List Leg → Leg
last_leg legs = slice_index_or legs (length legs - 1) (record { which = First; packet = 0 })

-- the verdict of the last leg in its own network, or why a network didn't take the packet in
abbrev pub end_by : Pairing → Both → List Leg → Option Refused → End
end_by pairing both legs (Some cause) = end.Refused cause
end_by pairing both legs None = end.Judged (last_leg legs).which (verdict_on (packets_in pairing both (last_leg legs).which) (last_leg legs).packet)

abbrev pub end_of : Pairing → Both → Travel → End
end_of pairing both packet = end_by pairing both packet.legs packet.refused

-- 2. The line of a packet

abbrev pub number_text : Which → List ℕ
number_text First = codes "1"
number_text Second = codes "2"

-- the sites of a journal's injections, in order
abbrev pub site_of : Step → List SiteNo
site_of (Inject s number) = s ∷ []
site_of step = []

abbrev pub sites_of : List JournalEntry → List SiteNo
sites_of entries = flat_map (λ entry. site_of entry.step) entries

-- a leg by its network and the site of its injection there
unfoldable pub leg_text : Pairing → Both → Leg → List ℕ
leg_text pairing both leg =
    text (codes " net " ∷ number_text leg.which ∷ codes " site "
    ∷ name_at (network pairing leg.which).site_names (slice_index_or (sites_of (side both leg.which).past.entries) leg.packet (record { 0 = 0 })).0 ∷ [])

unfoldable pub verdict_text : NameLists → Verdict → List ℕ
verdict_text names (Delivered ttl site copy) = text (codes "delivered " ∷ name_at names.sites site.0 ∷ codes " ttl " ∷ decimal ttl ∷ codes "\n" ∷ [])
verdict_text names (Dropped rule node) = text (codes "dropped " ∷ rule_name rule ∷ codes " at " ∷ name_at names.nodes node.0 ∷ codes "\n" ∷ [])
verdict_text names (Flying link dir) =
    let ends = ends_at names.links link.0 in
    text (codes "flying " ∷ name_at names.nodes (sender_of ends dir) ∷ codes " " ∷ name_at names.nodes (hearer_of ends dir) ∷ codes "\n" ∷ [])

abbrev pub end_text : Pairing → End → List ℕ
end_text pairing (end.Judged which verdict) = verdict_text (names_of (network pairing which)) verdict
end_text pairing (end.Refused cause) = text (codes "refused " ∷ cause_name cause ∷ codes "\n" ∷ [])

-- which packet it is: its number, from 1, and what sent it
unfoldable pub sent_text : ℕ → SentLine → List ℕ
sent_text number sending =
    text (codes "packet " ∷ decimal number ∷ codes " line " ∷ decimal sending.line ∷ codes " record " ∷ decimal sending.number ∷ [])

abbrev pub packet_line : Pairing → Both → ℕ → SentLine → Travel → List ℕ
packet_line pairing both number sending packet =
    sent_text number sending ++ (flat_map (leg_text pairing both) packet.legs ++ (codes " " ++ end_text pairing (end_of pairing both packet)))

-- each packet with the line that sent it, in order
abbrev pub no_line : SentLine
no_line = record { line = 0; site = record { 0 = 0 }; number = 0 }

abbrev pub packet_row : Pairing → JoinRun → ℕ → List ℕ
packet_row pairing run k = packet_line pairing run.both (k + 1) (slice_index_or run.sendings k no_line) (travel run.both k)

abbrev pub packets_text : Pairing → JoinRun → List ℕ
packets_text pairing run = flat_map (packet_row pairing run) (range_with_len 0 (length run.both.travels))

-- 3. The total

abbrev pub is_delivered : End → Bool
is_delivered (end.Judged which (Delivered ttl site copy)) = true
is_delivered other = false

abbrev pub is_dropped : End → Bool
is_dropped (end.Judged which (Dropped rule node)) = true
is_dropped other = false

abbrev pub is_flying : End → Bool
is_flying (end.Judged which (Flying link dir)) = true
is_flying other = false

abbrev pub is_refused : End → Bool
is_refused (end.Refused cause) = true
is_refused other = false

abbrev pub totals_of : List End → Totals
totals_of ends = record {
  packets = length ends;
  delivered = count_by is_delivered ends;
  dropped = count_by is_dropped ends;
  flying = count_by is_flying ends;
  refused = count_by is_refused ends;
}

abbrev pub ends_of : Pairing → Both → List End
ends_of pairing both = map (end_of pairing both) both.travels

unfoldable pub total_line : Totals → List ℕ
total_line totals =
    text (codes "total packets " ∷ decimal totals.packets ∷ codes " delivered " ∷ decimal totals.delivered ∷ codes " dropped " ∷ decimal totals.dropped
    ∷ codes " flying " ∷ decimal totals.flying ∷ codes " refused " ∷ decimal totals.refused ∷ codes "\n" ∷ [])

-- 4. The whole report

-- a line for each that was refused, in their order
abbrev pub refused_text : RefusedLine → List ℕ
refused_text refused = refused_line refused.line refused.cause

abbrev pub refused_texts : JoinRun → List ℕ
refused_texts run = flat_map refused_text run.refused

abbrev pub ended_text : Pairing → JoinRun → List ℕ
ended_text pairing run = packets_text pairing run ++ total_line (totals_of (ends_of pairing run.both))

-- a run that a full journal stopped tells of the lines before, and says so
abbrev pub report : Pairing → JoinRun → List ℕ
report pairing run = refused_texts run ++ cond run.is_stopped (codes "too large steps\n") (ended_text pairing run)

-- 5. The file of what came out at sites that aren't joined: raw IPv4 packets, each at the tick of its step

abbrev pub exit_record : Exit → List ℕ
exit_record exit = record_of exit.tick exit.bytes

abbrev pub exits_file : List Exit → List ℕ
exits_file exits = header 228 ++ flat_map exit_record exits
