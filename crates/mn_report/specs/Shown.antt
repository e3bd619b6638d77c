-- What a report shows beside its tables.
use Rattle.std.specs.Prelude.{ℕ, List, length, codes}
use Rattle.mn_topo.specs.Network.{Network}
use Rattle.mn_ledger.specs.declared.verdict.Verdict.{Verdict}
use Rattle.mn_course_laws.specs.Expansion.{SentLine}
use Rattle.mn_lines.specs.declared.lines.Sent.{Sent}
use Rattle.mn_lines.specs.declared.lines.Totals.{Totals}
use Rattle.mn_lines.specs.Lines.{refused_line, cause_text}
use Rattle.mn_net.specs.Now.{NetNow}
use Rattle.mn_output_laws.specs.Report.{count, is_delivered, is_dropped, is_flying}
use Rattle.mn_report.specs.declared.refused.Shown.{Shown}
use Rattle.mn_report.specs.declared.refused.Shown.TheVariants.{Step, NoRecord}

-- an injection by its line, site and record
abbrev pub sending_of : Sent → SentLine
sending_of sent = record { line = sent.line; site = sent.site; number = sent.«record» }

-- the line of a script's line that was refused
abbrev pub shown_text : Network → ℕ → Shown → List ℕ
shown_text topology number (Step cause) = refused_line number (cause_text topology.site_names cause)
shown_text topology number NoRecord = refused_line number (codes "NoRecord")

-- what all comes to, where these are the verdicts and so many lines were refused
abbrev pub totals_by : NetNow → ℕ → List Verdict → Totals
totals_by net refused verdicts = record {
  packets = length verdicts;
  delivered = count is_delivered verdicts;
  dropped = count is_dropped verdicts;
  flying = count is_flying verdicts;
  steps = length net.journal;
  refused = refused;
  tick = net.tick;
}
