-- What a whole run leaves and puts.
use Rattle.std.specs.Prelude.{◌≡◌, ◌⊎◌, ℕ, cond, List, ◌++◌, map, Option, Some, Result, Ok, Err, codes, ⊤}
use Rattle.std.specs.Option.{ForSome}
use Rattle.mn_edge.specs.Files.{Files, file}
use Rattle.mn_edge.specs.Written.{laid, PartWritten, AllBegun}
use Rattle.mn_topo.specs.Network.{Network}
use Rattle.mn_topo.specs.declared.steps.JournalEntry.{JournalEntry}
use Rattle.mn_script.specs.declared.command.Line.{Line}
use Rattle.mn_ledger.specs.Packets.{Packets}
use Rattle.mn_course_laws.specs.Expansion.{expanded}
use Rattle.mn_capture.specs.Packets.{CaptureView, packets_in}
use Rattle.mn_lines.specs.Lines.{total_line}
use Rattle.mn_lines.specs.Putting.{PartPut}
use Rattle.mn_edge.specs.Laid.{named}
use Rattle.mn_output_laws.specs.Files.{files_of, file_name}
use Rattle.mn_output_laws.specs.Contents.{contents}
use Rattle.mn_output_laws.specs.Report.{packet_lines, RunAnswer, run_answer, report}
use Rattle.mn_perform.specs.Recorded.{contents_at, whole_at}
use Rattle.mn_net_laws.specs.Now.{NetNow}
use Rattle.mn_report.specs.Shown.{sending_of, totals_by}
use Rattle.mn_perform.specs.Running.{is_stopped, notes_text}
use Rattle.mn_perform.specs.declared.desk.Desk.{Desk}
use Rattle.mn_perform.specs.declared.ended.Ended.{Ended}
use Rattle.mn_perform.specs.declared.ended.Fault.{Fault}
use Rattle.mn_perform.specs.declared.ended.Fault.TheVariants.{Read}

-- what is put once no line follows
abbrev pub last_text : NetNow → Desk → Ended → Packets → List ℕ
last_text net desk how packets =
    cond (is_stopped how) (codes "too large steps\n")
    (packet_lines net.topology 1 (map sending_of desk.sendings.items) packets.verdicts packets.paths ++ total_line
    (totals_by net desk.refused packets.verdicts))

-- where the shelf tells the capture's file, what is answered of the run is this
abbrev pub ForRun : (RunAnswer → Files → Type 0) → List ℕ → Network → List Line → CaptureView → Option Files → Type 0
ForRun P folder topology lines capture files =
    ForSome files (λ m. ForSome (file m capture.name) (λ bytes. P (run_answer folder topology lines (packets_in capture bytes)) m))

-- the files are the run's, laid over those of before; after a fault a first part of them
abbrev pub FilesOf : RunAnswer → Files → Option Files → Result Ended Fault → Type 0
FilesOf answer m after (Ok how) = after ≡ Some (laid answer.files m)
FilesOf answer m after (Err fault) = PartWritten answer.files m after

-- the same where only its packets and the shelf are asked for
abbrev pub ForPackets : (List (List ℕ) → Files → Type 0) → CaptureView → Option Files → Type 0
ForPackets P capture files = ForSome files (λ m. ForSome (file m capture.name) (λ bytes. P (packets_in capture bytes) m))

-- the files of a run while its lines are played, in order: no label is written yet
abbrev pub running : List ℕ → Network → List (List ℕ) → List JournalEntry → List (List ℕ × List ℕ)
running folder topology capture entries = map (λ out. (file_name folder topology out, contents topology capture entries out)) (files_of topology)

-- a read fails only once every file was begun
abbrev pub BegunAtRead : {T : Type 0} → List (List ℕ × List ℕ) → Files → Option Files → Result T Fault → Type 0
BegunAtRead files m after (Err Read) = AllBegun files m after
BegunAtRead files m after result = ⊤

-- where a read failed no more than this text was put
abbrev pub UntoldAtRead : {T : Type 0} → List ℕ → List ℕ → Option (List ℕ) → Result T Fault → Type 0
UntoldAtRead text before written (Err Read) = PartPut text before written
UntoldAtRead text before written result = ⊤

-- what was put is the run's report; after a fault a first part of it
abbrev pub TextOf : RunAnswer → List ℕ → Option (List ℕ) → Result Ended Fault → Type 0
TextOf answer before after (Ok how) = after ≡ Some (before ++ answer.text)
TextOf answer before after (Err fault) = PartPut answer.text before after

-- whether the journal was full
abbrev pub EndsAs : RunAnswer → Result Ended Fault → Type 0
EndsAs answer (Ok how) = answer.is_too_large ≡ is_stopped how
EndsAs answer (Err fault) = ⊤

-- of packets and of the total nothing is put but where every file is whole
abbrev pub TellsLate : List ℕ → Network → List Line → CaptureView → RunAnswer → Files → Option Files → List ℕ → Option (List ℕ) → Type 0
TellsLate folder topology lines capture answer m after before written =
    (after ≡ Some (laid answer.files m))
    ⊎ ForSome (file m capture.name)
    (λ bytes. PartPut (notes_text topology (packets_in capture bytes) (expanded topology (packets_in capture bytes) lines)) before written)

-- the same of a run by the packets of its capture and the names of its files
abbrev pub RunEnds : Network → List (List ℕ) → List Line → Result Ended Fault → Type 0
RunEnds topology all lines (Ok how) = (expanded topology all lines).is_stopped ≡ is_stopped how
RunEnds topology all lines (Err fault) = ⊤

abbrev pub whole_files : Network → List (List ℕ) → List Line → List (List ℕ) → List (List ℕ × List ℕ)
whole_files topology all lines names = named names (whole_at topology all (expanded topology all lines).past.entries)

abbrev pub running_files : Network → List (List ℕ) → List Line → List (List ℕ) → List (List ℕ × List ℕ)
running_files topology all lines names = named names (contents_at topology all (expanded topology all lines).past.entries)

abbrev pub RunFiles : Network → List (List ℕ) → List Line → List (List ℕ) → Files → Option Files → Result Ended Fault → Type 0
RunFiles topology all lines names base after (Ok how) = after ≡ Some (laid (whole_files topology all lines names) base)
RunFiles topology all lines names base after (Err fault) = PartWritten (whole_files topology all lines names) base after

abbrev pub RunText : Network → List (List ℕ) → List Line → List ℕ → Option (List ℕ) → Result Ended Fault → Type 0
RunText topology all lines before after (Ok how) = after ≡ Some (before ++ report topology all (expanded topology all lines))
RunText topology all lines before after (Err fault) = PartPut (report topology all (expanded topology all lines)) before after

abbrev pub IsLate : Network → List (List ℕ) → List Line → List (List ℕ) → Files → Option Files → List ℕ → Option (List ℕ) → Type 0
IsLate topology all lines names base after before written =
    (after ≡ Some (laid (whole_files topology all lines names) base)) ⊎ PartPut (notes_text topology all (expanded topology all lines)) before written
