-- What a run puts, and what it leaves: the report beside the files.
use Rattle.std.specs.Prelude.{ℕ, ◌+◌, Bool, true, false, cond, List, [], ◌∷◌, ◌++◌, map, filter, length, Option, None, codes}
use Rattle.std.specs.List.{flat_map}
use Rattle.mn_topo.specs.Network.{Network}
use Rattle.mn_script.specs.declared.command.Line.{Line}
use Rattle.mn_ledger.specs.declared.verdict.Verdict.{Verdict}
use Rattle.mn_ledger.specs.declared.verdict.Verdict.TheVariants.{Delivered, Dropped, Flying}
use Rattle.mn_ledger.specs.Packets.{Packets}
use Rattle.mn_ledger.specs.Ledger.{packets_of}
use Rattle.mn_script.specs.declared.command.Show as show
use Rattle.mn_script.specs.declared.command.Show.TheVariants.{Frame}
use Rattle.mn_course_laws.specs.Course.{inputs_of, record_of}
use Rattle.mn_course_laws.specs.Expansion.{Note, Refusal, Missing, Table, SentLine, Expansion, expanded}
use Rattle.mn_lines.specs.declared.lines.Sent.{Sent}
use Rattle.mn_lines.specs.declared.lines.Totals.{Totals}
use Rattle.mn_lines.specs.Names.{names_of}
use Rattle.mn_lines.specs.Lines.{cause_text, refused_line, packet_line, total_line}
use Rattle.mn_output_laws.specs.Contents.{output}
use Rattle.mn_output_laws.specs.Tables.{table_text}

-- 1. Refused lines and tables

-- the packet of the record that a table names, if it names one that the capture has
abbrev pub packet_for : List (List ℕ) → show.Show → Option (List ℕ)
packet_for capture (Frame node number) = record_of capture number
packet_for capture table = None

-- a table is reported as it stood after what had happened then
abbrev pub note_text : Network → List (List ℕ) → Note → List ℕ
note_text topology capture (Refusal line cause) = refused_line line (cause_text topology.site_names cause)
note_text topology capture (Missing line) = refused_line line (codes "NoRecord")
note_text topology capture (Table table past) = table_text topology past.entries (inputs_of capture past.entries) (packet_for capture table) table

-- 2. Packets

abbrev pub sent_by : SentLine → Sent
sent_by sending = record { line = sending.line; site = sending.site; «record» = sending.number }

-- a line for each injection, numbered on from here
abbrev pub packet_lines : Network → ℕ → List SentLine → List Verdict → List (List ℕ) → List ℕ
packet_lines topology number (sending ∷ sendings) (verdict ∷ verdicts) (path ∷ paths) =
    packet_line (names_of topology) number (sent_by sending) verdict (map (λ node. record { 0 = node }) path)
    ++ packet_lines topology (number + 1) sendings verdicts paths
packet_lines topology number _ _ _ = []

-- 3. The total

abbrev pub is_delivered : Verdict → Bool
is_delivered (Delivered ttl site copy) = true
is_delivered verdict = false

abbrev pub is_dropped : Verdict → Bool
is_dropped (Dropped rule node) = true
is_dropped verdict = false

abbrev pub is_flying : Verdict → Bool
is_flying (Flying l dir) = true
is_flying verdict = false

abbrev pub is_refusal : Note → Bool
is_refusal (Table table past) = false
is_refusal note = true

abbrev pub count : {A : Type 0} → (A → Bool) → List A → ℕ
count test xs = length (filter test xs)

abbrev pub totals_of : Expansion → List Verdict → Totals
totals_of run verdicts = record {
  packets = length verdicts;
  delivered = count is_delivered verdicts;
  dropped = count is_dropped verdicts;
  flying = count is_flying verdicts;
  steps = length run.past.entries;
  refused = count is_refusal run.notes;
  tick = run.past.clock;
}

-- 4. The whole report

abbrev pub ended_text : Network → Expansion → Packets → List ℕ
ended_text topology run packets =
    packet_lines topology 1 run.sendings packets.verdicts packets.paths ++ total_line (totals_of run packets.verdicts)

-- a run whose journal is full tells of the lines before, and says so
abbrev pub report : Network → List (List ℕ) → Expansion → List ℕ
report topology capture run =
    flat_map (note_text topology capture) run.notes
    ++ cond run.is_stopped (codes "too large steps\n")
    (ended_text topology run (packets_of topology run.past.entries (inputs_of capture run.past.entries)))

-- 5. What a run over a topology, a script and a capture leaves and puts; where its journal is full it ends as too large

pub record RunAnswer : Type 0 where
  pub is_too_large : Bool
  pub files : List (List ℕ × List ℕ)
  pub text : List ℕ

abbrev pub run_answer : List ℕ → Network → List Line → List (List ℕ) → RunAnswer
run_answer folder topology script capture =
    let run : Expansion = expanded topology capture script in
    record {
      is_too_large = run.is_stopped;
      files = output folder topology capture run.past.entries;
      text = report topology capture run;
    }
