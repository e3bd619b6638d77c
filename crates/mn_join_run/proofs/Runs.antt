-- A whole run, from its start to its end.
use Rattle.std.proofs.Common.{◌≡◌, ℕ, false, List, [], ◌∷◌, ◌++◌, append-nil, map, Option, Some, None, Result, Ok, Err, inr, refl, sym, ◌∙◌, ap, subst}
use Rattle.std.specs.Option.{ForSome}
use Rattle.mn_edge.specs.Files.{Files, file}
use Rattle.mn_edge.specs.Kept.{Framed}
use Rattle.mn_edge.specs.Written.{is_known, PartWritten}
use Rattle.mn_edge.specs.declared.device.DeviceBad.{DeviceBad}
use Rattle.mn_edge.specs.declared.device.DeviceBad.TheVariants.{Failed, NoMemory}
use Rattle.mn_topo.specs.Network.{Network}
use Rattle.mn_capture.specs.Packets.{CaptureView, packets_in}
use Rattle.mn_perform.specs.Recorded.{told_packets}
use Rattle.mn_output_laws.specs.Files.{Deliveries}
use Rattle.mn_lines.specs.Putting.{PutOn, PartPut, Puts, PutsPart}
use Rattle.mn_lines.proofs.Putting.{begun, ended}
use Rattle.mn_perform.specs.Shown.{sending_of}
use Rattle.mn_perform.proofs.Laying.{outside, told_is}
use Rattle.mn_perform.specs.Fails.{fault_of}
use Rattle.mn_perform.specs.Inside.{is_inside}
use Rattle.mn_perform.specs.declared.ended.Ended.{Ended}
use Rattle.mn_perform.specs.declared.ended.Fault.{Fault}
use Rattle.mn_join_laws.specs.Pairing.{Pairing, at_first}
use Rattle.mn_join.specs.Pairs.{PairNow, PairStands}
use Rattle.mn_join_script.specs.declared.line.JoinLine.{JoinLine}
use Rattle.mn_join_run.specs.Course.{JoinRun, at_start, run_of}
use Rattle.mn_join_run.specs.Report.{refused_texts, report, exits_file}
use Rattle.mn_join_run.specs.Answer.{exits_name}
use Rattle.mn_join_run.specs.Outside as around
use Rattle.mn_join_run.specs.Outside.{Outside, Start, Stands, IsCut, Holding}
use Rattle.mn_join_run.specs.Playing.{Keeps, Went, AllWent}
use Rattle.mn_join_run.specs.Ending.{last_text, the_files, RunEnds, start_in}
use Rattle.mn_join_run.specs.declared.desk.Desk.{Desk}
use Rattle.mn_join_run.proofs.Growing.{Grows, script_grows, texts_begin, file_begins}
use Rattle.mn_join_run.proofs.Standing.{cut_more, cut_here}
use Rattle.mn_join_run.proofs.Endings.{IsNoRead, never_begun, never_untold, not_done, cut_ends}

-- 1. Faults

pub no_read_of : (bad : DeviceBad) (why : Fault) → why ≡ fault_of bad → IsNoRead why
no_read_of Failed why is = subst IsNoRead (sym is) tt
no_read_of NoMemory why is = subst IsNoRead (sym is) tt

pub nothing_put : (told before : List ℕ) (written : Option (List ℕ)) → written ≡ Some before → PartPut told before written
nothing_put told before written is = ([], (told, refl), is ∙ ap Some (sym (append-nil before)))

-- the file couldn't be begun
pub not_begun : (pairing : Pairing) (start : Start) (run : JoinRun) (after : Option Files) (why : Fault) → IsNoRead why →
    ForSome start.base (λ m. PartWritten (the_files start run) m after) → RunEnds pairing start run after start.before (Err why)
not_begun pairing start run after why unread part = record {
  ended = tt;
  files = part;
  text = λ before is. nothing_put (report pairing run) before start.before is;
  late = λ m is before put. inr (nothing_put (refused_texts run) before start.before put);
  begun = λ m is. never_begun (the_files start run) m after why unread;
  untold = λ before is. never_untold (refused_texts run) before start.before why unread;
  lawful = not_done pairing run why;
}

-- 2. The start

-- the capture's file is none of those that a run writes
pub unknown : (folder name : List ℕ) (t : Network) → is_inside name folder ≡ false → is_known (exits_name folder ∷ []) name ≡ false
unknown folder name t apart = outside folder t (Deliveries ∷ []) name apart

-- so its packets are told throughout
pub packets_told : (folder : List ℕ) (capture : CaptureView) (t : Network) (m : Files) (after : Option Files) (bytes : List ℕ) →
    is_inside capture.name folder ≡ false → Framed (exits_name folder ∷ []) (Some m) after → file m capture.name ≡ Some bytes →
    told_packets after (exits_name folder ∷ []) capture ≡ Some (packets_in capture bytes)
packets_told folder capture t m after bytes apart framed there =
    told_is (exits_name folder ∷ []) capture m after bytes (unknown folder capture.name t apart) framed there

pub stands_at_start : (folder : List ℕ) (base files : Option Files) (before : Option (List ℕ)) (waits : List ℕ) (held names : List (List ℕ)) →
    names ≡ exits_name folder ∷ [] → waits ≡ [] → ForSome base (λ m. Holding names (exits_file []) held files) →
    Stands (start_in folder base before) [] (exits_file []) (around.outside waits before held files)
stands_at_start folder base files before waits held names are none holding = record {
  text = λ b is. subst (λ w. PutOn b [] w before) (sym none) (begun b before is);
  file = λ m is. subst (λ n. Holding n (exits_file []) held files) are (holding m is);
}

pub keeps_at_start : (pairing : Pairing) (start : Start) (pair : PairNow) (desk : Desk) (out : Outside) → PairStands pairing pair at_first →
    pair.stopped ≡ None → desk.sent.items ≡ [] → Stands start [] (exits_file []) out → Keeps pairing start at_start pair desk out
keeps_at_start pairing start pair desk out stands goes none outside = record {
  pair_stands = stands;
  goes = goes;
  running = refl;
  sendings = ap (map sending_of) none;
  outside = outside;
}

-- no line was played
pub unplayed : (pairing : Pairing) (start : Start) (packets : List (List ℕ)) (lines : List JoinLine) (out : Outside) (why : Fault) →
    Stands start [] (exits_file []) out → Framed start.names start.base out.files →
    RunEnds pairing start (run_of pairing packets lines) out.files out.written (Err why)
unplayed pairing start packets lines out why stands framed =
    let grows : Grows at_start (run_of pairing packets lines) = script_grows pairing packets at_start lines in
    cut_ends pairing start (run_of pairing packets lines) out
    (cut_more start [] _ (exits_file []) _ out (texts_begin at_start (run_of pairing packets lines) grows)
    (file_begins at_start (run_of pairing packets lines) grows) (cut_here start [] (exits_file []) out stands))
    framed why

-- 3. The lines

-- a fault cut the lines off
pub lines_break : (pairing : Pairing) (start : Start) (files : Option Files) (capture : CaptureView) (lines : List JoinLine) (packets : List (List ℕ))
    (pair : PairNow) (desk : Desk) (out : Outside) (why : Fault) → told_packets files start.names capture ≡ Some packets →
    AllWent pairing start files capture lines pair desk out (Err why) → Framed start.names start.base out.files →
    RunEnds pairing start (run_of pairing packets lines) out.files out.written (Err why)
lines_break pairing start files capture lines packets pair desk out why told went framed =
    subst (λ run. RunEnds pairing start run out.files out.written (Err why)) (went.whole packets told)
    (cut_ends pairing start went.run out went.went framed why)

-- all were played, or a full journal stopped them
pub lines_end : (pairing : Pairing) (start : Start) (files after : Option Files) (capture : CaptureView) (lines : List JoinLine) (packets : List (List ℕ))
    (pair : PairNow) (desk : Desk) (out : Outside) (written : Option (List ℕ)) (how : Ended) (result : Result Ended Fault) →
    told_packets files start.names capture ≡ Some packets → AllWent pairing start files capture lines pair desk out (Ok how) →
    ((run : JoinRun) → Went pairing start run pair desk out (Ok how) → RunEnds pairing start run after written result) →
    RunEnds pairing start (run_of pairing packets lines) after written result
lines_end pairing start files after capture lines packets pair desk out written how result told went ends =
    subst (λ run. RunEnds pairing start run after written result) (went.whole packets told) (ends went.run went.went)

-- 4. The end

-- the text of a whole report, from its two parts
pub report_part : (pairing : Pairing) (run : JoinRun) (before waits : List ℕ) (written now : Option (List ℕ)) → PutOn before (refused_texts run) waits written →
    PutsPart (last_text pairing run) waits written now → PartPut (report pairing run) before now
report_part pairing run before waits written now on put = put before (refused_texts run) on

pub report_cut : (pairing : Pairing) (run : JoinRun) (before waits more : List ℕ) (written mid now : Option (List ℕ)) →
    PutOn before (refused_texts run) waits written → Puts (last_text pairing run) waits more written mid → PutsPart [] more mid now →
    PartPut (report pairing run) before now
report_cut pairing run before waits more written mid now on put cut =
    subst (λ text. PartPut text before now) (append-nil (report pairing run)) (cut before (report pairing run) (put before (refused_texts run) on))

pub report_put : (pairing : Pairing) (run : JoinRun) (before waits more rest : List ℕ) (written mid now : Option (List ℕ)) →
    PutOn before (refused_texts run) waits written → Puts (last_text pairing run) waits more written mid → Puts [] more rest mid now → rest ≡ [] →
    now ≡ Some (before ++ report pairing run)
report_put pairing run before waits more rest written mid now on put end done =
    let all : PutOn before (report pairing run ++ []) rest now = end before (report pairing run) (put before (refused_texts run) on) in
    ended before (report pairing run ++ []) now (subst (λ w. PutOn before (report pairing run ++ []) w now) done all)
    ∙ ap (λ text. Some (before ++ text)) (append-nil (report pairing run))
