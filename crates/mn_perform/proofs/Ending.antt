-- How a run ends: its files, and its report.
use Rattle.std.proofs.Common.{◌≡◌, ℕ, false, cond, List, ◌++◌, map, length, append_assoc, Option, Some}
use Rattle.std.proofs.Common.{Ok, Err, Result, OnOk, OnErr, inl, inr, refl, sym, ◌∙◌, ap, subst}
use Rattle.std.specs.Prelude.{◌⊎◌, codes}
use Rattle.mn_edge.specs.Files.{Files}
use Rattle.mn_edge.specs.Kept.{HoldsOn, BeginsOn, Framed}
use Rattle.mn_edge.specs.KeptLaws.{begins_on_more}
use Rattle.mn_edge.specs.Laid.{named, part_written, all_begun}
use Rattle.mn_edge.specs.Written.{laid, PartWritten}
use Rattle.mn_topo.specs.Network.{Network}
use Rattle.mn_topo.specs.declared.steps.JournalEntry.{JournalEntry}
use Rattle.mn_script.specs.declared.command.Line.{Line}
use Rattle.mn_ledger.specs.declared.verdict.Verdict.{Verdict}
use Rattle.mn_ledger.specs.Packets.{Packets}
use Rattle.mn_ledger.specs.Ledger.{packets_of}
use Rattle.mn_course_laws.specs.Course.{inputs_of}
use Rattle.mn_course_laws.specs.Expansion.{Expansion, expanded}
use Rattle.mn_lines.specs.declared.lines.Totals.{Totals}
use Rattle.mn_lines.specs.Lines.{total_line}
use Rattle.mn_lines.specs.Putting.{PutOn, PartPut}
use Rattle.mn_output_laws.specs.Contents.{tail_of}
use Rattle.mn_output_laws.specs.Report.{packet_lines, count, is_refusal, is_delivered, is_dropped, is_flying, totals_of, ended_text, report}
use Rattle.mn_files.specs.Numbers.{file_at, edge_places}
use Rattle.mn_net_laws.specs.Now.{NetNow}
use Rattle.mn_output_laws.specs.Files.{files_of}
use Rattle.mn_perform.specs.Recorded.{BooksNow, IsFor, contents_at, whole_at}
use Rattle.mn_report.specs.Shown.{sending_of, totals_by}
use Rattle.mn_perform.specs.declared.desk.Desk.{Desk}
use Rattle.mn_perform.specs.declared.ended.Ended.{Ended}
use Rattle.mn_perform.specs.declared.ended.Ended.TheVariants as ended
use Rattle.mn_perform.specs.declared.ended.Fault.{Fault}
use Rattle.mn_perform.specs.declared.ended.Fault.TheVariants as fault
use Rattle.mn_perform.specs.Faults.{SinkBlamed}
use Rattle.mn_perform.specs.Fails.{fault_of}
use Rattle.mn_edge.specs.declared.device.DeviceBad.{DeviceBad}
use Rattle.mn_edge.specs.declared.device.DeviceBad.TheVariants as bad
use Rattle.mn_perform.specs.Running.{Stands, notes_text, Keeps, Breaks, Went, is_stopped}
use Rattle.mn_perform.specs.Whole.{last_text, running_files, whole_files, BegunAtRead, UntoldAtRead, RunEnds, RunFiles, RunText, IsLate}

-- 1. Parts

-- files that hold, or begin, what is written as steps are done begin their whole
pub begins_whole : (t : Network) (all : List (List ℕ)) (entries : List JournalEntry) (names : List (List ℕ)) (files : Option Files) →
    BeginsOn names (contents_at t all entries) files
    → BeginsOn names (whole_at t all entries) files
begins_whole t all entries names files h =
    begins_on_more names (contents_at t all entries) (whole_at t all entries) files (λ k. (tail_of t entries (file_at t k), refl)) h

-- the report begins with its notes
pub notes_begin : (t : Network) (all : List (List ℕ)) (run : Expansion) (before : List ℕ) (written : Option (List ℕ)) →
    PartPut (notes_text t all run) before written
    → PartPut (report t all run) before written
notes_begin t all run before written p =
    let rest : List ℕ = cond run.is_stopped (codes "too large steps\n") (ended_text t run (packets_of t run.past.entries (inputs_of all run.past.entries))) in
    (p.0, (p.1.0 ++ rest, sym (append_assoc p.0 p.1.0 rest) ∙ ap (λ l. l ++ rest) p.1.1), p.2)

module _ (t : Network) (all : List (List ℕ)) (begun : Option (List ℕ)) (lines : List Line) (how : Ended) (net : NetNow) (books : BooksNow) (desk : Desk)
    (files : Option Files)
    (written : Option (List ℕ)) (went : Went t all begun (expanded t all lines) net books desk files written (Ok how)) where
  abbrev run : Expansion
  run = expanded t all lines

  keeps : Keeps t all begun run net books desk files written
  keeps = went.0

  pub stands : Stands all net books files
  stands = record {
    stands = keeps.stands;
    holds = subst (λ n. HoldsOn books.names (contents_at n all net.journal) books.held files) (sym keeps.topology_is) keeps.holds;
  }

  -- 2. Files

  files_are : (names : List (List ℕ)) → books.names ≡ names → named books.names (whole_at net.topology all net.journal) ≡ whole_files t all lines names
  files_are names same =
      ap (λ n. named books.names (whole_at n all net.journal)) keeps.topology_is ∙ ap (λ e. named books.names (whole_at t all e)) keeps.journal
      ∙ ap (λ n. named n (whole_at t all run.past.entries)) same

  pub run_files : (names : List (List ℕ)) (base : Files) (after : Option Files) (result : Result Ended Fault) → books.names ≡ names →
      Framed names (Some base) files
      → OnOk result ((base : Files) (all : List (List ℕ)) → Framed books.names (Some base) files → Stands all net books files →
      after ≡ Some (laid (named books.names (whole_at net.topology all net.journal)) base))
      → OnErr result ((base : Files) (all : List (List ℕ)) → Framed books.names (Some base) files → Stands all net books files →
      PartWritten (named books.names (whole_at net.topology all net.journal)) base after) → RunFiles t all lines names base after result
  run_files names base after (Ok x) same framed whole part =
      whole base all (subst (λ n. Framed n (Some base) files) (sym same) framed) stands ∙ ap (λ f. Some (laid f base)) (files_are names same)
  run_files names base after (Err fault) same framed whole part =
      subst (λ f. PartWritten f base after) (files_are names same) (part base all (subst (λ n. Framed n (Some base) files) (sym same) framed) stands)

  -- 3. The report

  totals_are : run.is_stopped ≡ false → (verdicts : List Verdict) → totals_by net desk.refused verdicts ≡ totals_of run verdicts
  totals_are running verdicts =
      let totals : ℕ → ℕ → ℕ → Totals = λ steps refused tick. record {
        packets = length verdicts;
        delivered = count is_delivered verdicts;
        dropped = count is_dropped verdicts;
        flying = count is_flying verdicts;
        steps = steps;
        refused = refused;
        tick = tick;
      } in
      ap (λ n. totals n desk.refused net.tick) (ap length keeps.journal) ∙ ap (λ n. totals (length run.past.entries) n net.tick) keeps.refused
      ∙ ap (λ n. totals (length run.past.entries) (count is_refusal run.notes) n) (keeps.clock running)

  abbrev packets_now : Packets
  packets_now = packets_of net.topology net.journal (inputs_of all net.journal)

  abbrev packets_then : Packets
  packets_then = packets_of t run.past.entries (inputs_of all run.past.entries)

  packets_are : packets_now ≡ packets_then
  packets_are = ap (λ n. packets_of n net.journal (inputs_of all net.journal)) keeps.topology_is ∙ ap (λ e. packets_of t e (inputs_of all e)) keeps.journal

  abbrev told_at_end : Network → Packets → List ℕ
  told_at_end topology packets =
      packet_lines topology 1 (map sending_of desk.sendings.items) packets.verdicts packets.paths ++ total_line (totals_by net desk.refused packets.verdicts)

  all_told : run.is_stopped ≡ false → told_at_end net.topology packets_now ≡ ended_text t run packets_then
  all_told running =
      ap (λ n. told_at_end n packets_now) keeps.topology_is ∙ ap (told_at_end t) packets_are
      ∙ ap (λ s. packet_lines t 1 s packets_then.verdicts packets_then.paths ++ total_line (totals_by net desk.refused packets_then.verdicts)) keeps.sendings
      ∙ ap (λ x. packet_lines t 1 run.sendings packets_then.verdicts packets_then.paths ++ total_line x) (totals_are running packets_then.verdicts)

  last_is : (end : Ended) → run.is_stopped ≡ is_stopped end →
      last_text net desk end packets_now ≡ cond run.is_stopped (codes "too large steps\n") (ended_text t run packets_then)
  last_is ended.TooManySteps stopped = ap (λ b. cond b (codes "too large steps\n") (ended_text t run packets_then)) (sym stopped)
  last_is ended.All stopped = all_told stopped ∙ ap (λ b. cond b (codes "too large steps\n") (ended_text t run packets_then)) (sym stopped)

  report_is : notes_text t all run ++ last_text net desk how packets_now ≡ report t all run
  report_is = ap (λ l. notes_text t all run ++ l) (last_is how went.1)

  pub run_text : (before : List ℕ) (after : Option (List ℕ)) (result : Result Ended Fault) → begun ≡ Some before
      → OnOk result ((all : List (List ℕ)) (before notes : List ℕ) → Stands all net books files → PutOn before notes desk.page written →
      after ≡ Some (before ++ (notes ++ last_text net desk how (packets_of net.topology net.journal (inputs_of all net.journal)))))
      → OnErr result ((all : List (List ℕ)) (before notes : List ℕ) → Stands all net books files → PutOn before notes desk.page written →
      PartPut (notes ++ last_text net desk how (packets_of net.topology net.journal (inputs_of all net.journal))) before after) →
      RunText t all lines before after result
  run_text before after (Ok x) is put part = put all before (notes_text t all run) stands (keeps.text before is) ∙ ap (λ l. Some (before ++ l)) report_is
  run_text before after (Err fault) is put part =
      subst (λ l. PartPut l before after) report_is (part all before (notes_text t all run) stands (keeps.text before is))

  -- 4. The end comes late

  pub run_late : (names : List (List ℕ)) (base : Files) (before : List ℕ) (after : Option Files) (after_text : Option (List ℕ))
      (result : Result Ended Fault) → books.names ≡ names
      → Framed names (Some base) files → begun ≡ Some before
      → OnOk result ((base : Files) (all : List (List ℕ)) → Framed books.names (Some base) files → Stands all net books files →
      after ≡ Some (laid (named books.names (whole_at net.topology all net.journal)) base))
      → OnErr result ((base : Files) (all : List (List ℕ)) (before notes : List ℕ) → Framed books.names (Some base) files → Stands all net books files →
      PutOn before notes desk.page written →
      (after ≡ Some (laid (named books.names (whole_at net.topology all net.journal)) base)) ⊎ PartPut notes before after_text) →
      IsLate t all lines names base after before after_text
  run_late names base before after after_text (Ok x) same framed is whole late =
      inl (whole base all (subst (λ n. Framed n (Some base) files) (sym same) framed) stands ∙ ap (λ f. Some (laid f base)) (files_are names same))
  run_late names base before after after_text (Err fault) same framed is whole late =
      elim (late base all before (notes_text t all run) (subst (λ n. Framed n (Some base) files) (sym same) framed) stands (keeps.text before is)) [
        | inl e ↦ inl (e ∙ ap (λ f. Some (laid f base)) (files_are names same))
        | inr p ↦ inr p
      ]

pub run_ends : (t : Network) (all : List (List ℕ)) (begun : Option (List ℕ)) (lines : List Line) (how : Ended) (net : NetNow) (books : BooksNow)
    (desk : Desk) (files : Option Files)
    (written : Option (List ℕ)) (result : Result Ended Fault) → Went t all begun (expanded t all lines) net books desk files written (Ok how) →
    OnOk result (result ≡ Ok how)
    → RunEnds t all lines result
run_ends t all begun lines how net books desk files written (Ok x) went same =
    went.1 ∙ ap is_stopped (let e : Ok x ≡ Ok how = same in let f : x ≡ how = cc in sym f)
run_ends t all begun lines how net books desk files written (Err fault) went same = tt

-- 5. A run that was cut off among its lines

pub broken_files : (t : Network) (all : List (List ℕ)) (begun : Option (List ℕ)) (lines : List Line) (found names : List (List ℕ)) (base : Files)
    (files : Option Files) (written : Option (List ℕ))
    → found ≡ names → Breaks t all begun (expanded t all lines) found files written → Framed names (Some base) files →
    PartWritten (whole_files t all lines names) base files
broken_files t all begun lines found names base files written same breaks framed =
    part_written names (whole_at t all (expanded t all lines).past.entries) base files framed
    (begins_whole t all (expanded t all lines).past.entries names files
    (subst (λ n. BeginsOn n (contents_at t all (expanded t all lines).past.entries) files) same breaks.begins))

-- a run whose read failed among its lines had begun its files
pub broken_begun : (t : Network) (all : List (List ℕ)) (begun : Option (List ℕ)) (lines : List Line) (found names : List (List ℕ)) (base : Files)
    (files : Option Files)
    (written : Option (List ℕ)) (why : Fault) → found ≡ names → Breaks t all begun (expanded t all lines) found files written → Framed names (Some base) files
    → BegunAtRead {T = Ended} (running_files t all lines names) base files (Err why)
broken_begun t all begun lines found names base files written fault.Read same breaks framed =
    all_begun names (contents_at t all (expanded t all lines).past.entries) base files framed
    (subst (λ n. BeginsOn n (contents_at t all (expanded t all lines).past.entries) files) same breaks.begins)
broken_begun t all begun lines found names base files written fault.Write same breaks framed = tt
broken_begun t all begun lines found names base files written fault.NoMemory same breaks framed = tt

-- and had put no more than its notes
pub broken_untold : (text before : List ℕ) (written : Option (List ℕ)) (why : Fault) → PartPut text before written →
    UntoldAtRead {T = Ended} text before written (Err why)
broken_untold text before written fault.Read put = put
broken_untold text before written fault.Write put = tt
broken_untold text before written fault.NoMemory put = tt

-- no read failed
pub no_read : {T : Type 0} (files : List (List ℕ × List ℕ)) (m : Files) (after : Option Files) (result : Result T Fault) →
    (result ≡ Err fault.Read → ⊥) → BegunAtRead files m after result
no_read files m after (Ok x) h = tt
no_read files m after (Err fault.Read) h = absurd (h refl)
no_read files m after (Err fault.Write) h = tt
no_read files m after (Err fault.NoMemory) h = tt

pub untold_unread : {T : Type 0} (text before : List ℕ) (written : Option (List ℕ)) (result : Result T Fault) →
    (result ≡ Err fault.Read → ⊥) → UntoldAtRead text before written result
untold_unread text before written (Ok x) h = tt
untold_unread text before written (Err fault.Read) h = absurd (h refl)
untold_unread text before written (Err fault.Write) h = tt
untold_unread text before written (Err fault.NoMemory) h = tt

same_fault : (a b : Fault) → ◌≡◌ {A = Result Ended Fault} (Err a) (Err b) → a ≡ b
same_fault a b e = cc

-- what failed was a call on the sink, or a write
pub sink_reads_none : (old new : Option ℕ) (why : Fault) → SinkBlamed {T = Unit {0}} old new (Err why) →
    ◌≡◌ {A = Result Ended Fault} (Err why) (Err fault.Read) → ⊥
sink_reads_none old new fault.Read h e = h
sink_reads_none old new fault.Write h e = let same : fault.Write ≡ fault.Read = same_fault fault.Write fault.Read e in cc
sink_reads_none old new fault.NoMemory h e = let same : fault.NoMemory ≡ fault.Read = same_fault fault.NoMemory fault.Read e in cc

pub write_reads_none : (why : DeviceBad) (found : Fault) → found ≡ fault_of why → ◌≡◌ {A = Result Ended Fault} (Err found) (Err fault.Read) → ⊥
write_reads_none bad.Failed found is e = let same : fault.Write ≡ fault.Read = sym is ∙ same_fault found fault.Read e in cc
write_reads_none bad.NoMemory found is e = let same : fault.NoMemory ≡ fault.Read = sym is ∙ same_fault found fault.Read e in cc

-- a net that keeps a run stands, with its files
pub stands_at : (t : Network) (all : List (List ℕ)) (begun : Option (List ℕ)) (run : Expansion) (net : NetNow) (books : BooksNow) (desk : Desk)
    (files : Option Files) (written : Option (List ℕ))
    → Keeps t all begun run net books desk files written → Stands all net books files
stands_at t all begun _ net books desk files written keeps = record {
  stands = keeps.stands;
  holds = subst (λ n. HoldsOn books.names (contents_at n all net.journal) books.held files) (sym keeps.topology_is) keeps.holds;
}

-- the books that were for a run are so still
pub still_for : (old new : BooksNow) (t now : Network) → new.names ≡ old.names → new.places ≡ old.places → now ≡ t → IsFor old t → IsFor new now
still_for old new t now names places topology h = record {
  files = ap length names ∙ h.files ∙ ap (λ n. length (files_of n)) (sym topology);
  table = places ∙ h.table ∙ ap edge_places (sym topology);
}
