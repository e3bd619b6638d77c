-- The line of one packet, and what verdicts come to.
use Rattle.std.specs.Prelude.{ℕ, ◌+◌, List, [], map, slice_index_or}
use Rattle.mn_topo.specs.Network.{Network}
use Rattle.mn_ledger.specs.declared.verdict.Verdict.{Verdict}
use Rattle.mn_ledger.specs.declared.verdict.Verdict.TheVariants.{Delivered, Dropped, Flying}
use Rattle.mn_ledger.specs.Packets.{Packets}
use Rattle.mn_ledger.specs.Verdicts.{verdict_on}
use Rattle.mn_lines.specs.declared.lines.Sent.{Sent}
use Rattle.mn_lines.specs.Names.{names_of}
use Rattle.mn_lines.specs.Lines.{packet_line}
use Rattle.mn_output_laws.specs.Report.{count, is_delivered, is_dropped, is_flying}
use Rattle.mn_report.specs.declared.total.Counts.{Counts}

-- the packet of a number from 0, which this injection sent
abbrev pub packet_row : Network → Packets → ℕ → Sent → List ℕ
packet_row topology packets packet sent =
    packet_line (names_of topology) (packet + 1) sent (verdict_on packets packet) (map (λ node. record { 0 = node }) (slice_index_or packets.paths packet []))

-- how many verdicts there are of each kind
abbrev pub counts_of : List Verdict → Counts
counts_of verdicts = record { delivered = count is_delivered verdicts; dropped = count is_dropped verdicts; flying = count is_flying verdicts }

-- with one verdict more
abbrev pub with_verdict : Counts → Verdict → Counts
with_verdict counts (Delivered ttl site copy) = record { delivered = counts.delivered + 1; dropped = counts.dropped; flying = counts.flying }
with_verdict counts (Dropped rule node) = record { delivered = counts.delivered; dropped = counts.dropped + 1; flying = counts.flying }
with_verdict counts (Flying link dir) = record { delivered = counts.delivered; dropped = counts.dropped; flying = counts.flying + 1 }
