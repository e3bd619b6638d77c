-- A whole run, from its parts.
use Rattle.std.proofs.Common.{◌≡◌, ℕ, false, List, [], map, append-nil, Option, Some, None, Ok, Err, Result, inl, inr, refl, sym, ◌∙◌, ap, subst}
use Rattle.mn_edge.specs.Files.{Files, file}
use Rattle.mn_edge.specs.Kept.{HoldsOn, Framed}
use Rattle.mn_edge.specs.KeptLaws.{begins_on, same_some}
use Rattle.mn_edge.specs.Written.{laid, PartWritten, is_known}
use Rattle.mn_topo.specs.Network.{Network}
use Rattle.mn_script.specs.declared.command.Line.{Line}
use Rattle.mn_course_laws.specs.Course.{inputs_of}
use Rattle.mn_course_laws.specs.Expansion.{expanded, start_of}
use Rattle.mn_capture.specs.Packets.{CaptureView, packets_in}
use Rattle.mn_lines.specs.Putting.{PartPut, PutOn}
use Rattle.mn_lines.proofs.Putting.{begun}
use Rattle.mn_output_laws.specs.Files.{files_of, file_name}
use Rattle.mn_output_laws.specs.Contents.{output}
use Rattle.mn_output_laws.specs.Report.{run_answer}
use Rattle.mn_net_laws.specs.Now.{NetNow, StandsFor}
use Rattle.mn_perform.specs.Recorded.{BooksNow, contents_at, told_packets}
use Rattle.mn_report.specs.Shown.{sending_of}
use Rattle.mn_perform.specs.declared.desk.Desk.{Desk}
use Rattle.mn_perform.specs.declared.ended.Ended.{Ended}
use Rattle.mn_perform.specs.declared.ended.Fault.{Fault}
use Rattle.mn_edge.specs.declared.device.DeviceBad.{DeviceBad}
use Rattle.mn_edge.specs.declared.device.DeviceBad.TheVariants as bad
use Rattle.mn_perform.specs.Fails.{fault_of}
use Rattle.mn_perform.specs.Inside.{is_inside}
use Rattle.mn_perform.specs.Running.{Keeps, notes_text}
use Rattle.mn_perform.specs.Whole.{running, running_files, whole_files, BegunAtRead, UntoldAtRead, RunEnds, RunFiles, RunText, IsLate}
use Rattle.mn_perform.specs.Whole.{FilesOf, TextOf, EndsAs, TellsLate}
use Rattle.mn_perform.proofs.Laying.{named_output, named_running, cut_off, outside, told_is}

-- nothing was put
pub put_nothing : (text before : List ℕ) (written : Option (List ℕ)) → written ≡ Some before → PartPut text before written
put_nothing text before written is = ([], (text, refl), is ∙ ap Some (sym (append-nil before)))

module _ (folder : List ℕ) (t : Network) (lines : List Line) (capture : CaptureView) (m : Files) (bytes : List ℕ) (names : List (List ℕ))
    (opened : Option Files)
    (there : file m capture.name ≡ Some bytes) (apart : is_inside capture.name folder ≡ false) (are : names ≡ map (file_name folder t) (files_of t))
    (framed : Framed names (Some m) opened) where
  abbrev all : List (List ℕ)
  all = packets_in capture bytes

  -- the capture's file is none of the run's, so its packets are told throughout
  pub told : told_packets opened names capture ≡ Some all
  told = told_is names capture m opened bytes (ap (λ n. is_known n capture.name) are ∙ outside folder t (files_of t) capture.name apart) framed there

  -- 1. A run that didn't begin to play

  pub unplayed_files : (held : List (List ℕ)) (fault : Fault) → HoldsOn names (contents_at t all []) held opened →
      FilesOf (run_answer folder t lines all) m opened (Err fault)
  unplayed_files held fault holds =
      cut_off folder t all [] (expanded t all lines).past.entries names m opened are ((expanded t all lines).past.entries, refl) framed
      (begins_on _ _ _ _ holds)

  pub unplayed_late : (before : List ℕ) (written : Option (List ℕ)) (after : Option Files) → written ≡ Some before
      → TellsLate folder t lines capture (run_answer folder t lines all) m after before written
  unplayed_late before written after is =
      inr (λ other found. put_nothing (notes_text t (packets_in capture other) (expanded t (packets_in capture other) lines)) before written is)

  -- 2. A run that was played

  files_are : whole_files t all lines names ≡ output folder t all (expanded t all lines).past.entries
  files_are = ap (whole_files t all lines) are ∙ named_output folder t all (expanded t all lines).past.entries

  pub played_ends : (result : Result Ended Fault) → RunEnds t all lines result → EndsAs (run_answer folder t lines all) result
  played_ends (Ok how) h = h
  played_ends (Err fault) h = tt

  pub played_files : (after : Option Files) (result : Result Ended Fault) → RunFiles t all lines names m after result →
      FilesOf (run_answer folder t lines all) m after result
  played_files after (Ok how) h = h ∙ ap (λ f. Some (laid f m)) files_are
  played_files after (Err fault) h = subst (λ f. PartWritten f m after) files_are h

  pub played_begun : (after : Option Files) (result : Result Ended Fault) → BegunAtRead (running_files t all lines names) m after result
      → BegunAtRead (running folder t all (expanded t all lines).past.entries) m after result
  played_begun after result h =
      subst (λ f. BegunAtRead f m after result) (ap (running_files t all lines) are ∙ named_running folder t all (expanded t all lines).past.entries) h

  pub played_text : (before : List ℕ) (after : Option (List ℕ)) (result : Result Ended Fault) → RunText t all lines before after result
      → TextOf (run_answer folder t lines all) before after result
  played_text before after (Ok how) h = h
  played_text before after (Err fault) h = h

  pub played_late : (after : Option Files) (before : List ℕ) (written : Option (List ℕ)) → IsLate t all lines names m after before written
      → TellsLate folder t lines capture (run_answer folder t lines all) m after before written
  played_late after before written h = elim h [
    | inl e ↦ inl (e ∙ ap (λ f. Some (laid f m)) files_are)
    | inr p ↦ inr (λ other found. subst (λ b. PartPut (notes_text t (packets_in capture b) (expanded t (packets_in capture b) lines)) before written)
        (same_some bytes other _ there found) p)
  ]

-- 3. What failed was no read

pub written_failed : (files : List (List ℕ × List ℕ)) (m : Files) (after : Option Files) (why : DeviceBad) →
    BegunAtRead {T = Ended} files m after (Err (fault_of why))
written_failed files m after bad.Failed = tt
written_failed files m after bad.NoMemory = tt

pub written_untold : (text before : List ℕ) (written : Option (List ℕ)) (why : DeviceBad) → UntoldAtRead {T = Ended} text before written (Err (fault_of why))
written_untold text before written bad.Failed = tt
written_untold text before written bad.NoMemory = tt

-- 4. The start of a run

pub at_start : (t : Network) (all : List (List ℕ)) (begun_at : Option (List ℕ)) (net : NetNow) (books : BooksNow) (desk : Desk) (files : Option Files) →
    net.topology ≡ t → net.journal ≡ []
    → net.tick ≡ 0 → StandsFor net [] → HoldsOn books.names (contents_at t all []) books.held files → desk.page ≡ [] → desk.sendings.items ≡ [] →
    desk.refused ≡ 0
    → Keeps net.topology all begun_at (start_of (record { clock = 0; entries = [] })) net books desk files begun_at
at_start t all begun_at net books desk files topology journal tick stands holds page sendings refused = record {
  topology_is = refl;
  journal = journal;
  clock = λ _. tick;
  stands = subst (λ j. StandsFor net (inputs_of all j)) (sym journal) stands;
  holds = subst (λ j. HoldsOn books.names (contents_at net.topology all j) books.held files) (sym journal)
      (subst (λ n. HoldsOn books.names (contents_at n all []) books.held files) (sym topology) holds);
  sendings = ap (map sending_of) sendings;
  refused = refused;
  text = λ before is. subst (λ p. PutOn before [] p begun_at) (sym page) (begun before begun_at is);
}

-- packets are told only of a shelf that told its files before
pub told_before : (names : List (List ℕ)) (capture : CaptureView) (old opened : Option Files) (all : List (List ℕ)) → Framed names old opened →
    told_packets opened names capture ≡ Some all
    → (m : Files) × (old ≡ Some m)
told_before names capture None opened all framed told =
    absurd (let e : None ≡ Some all = ap (λ o. told_packets o names capture) (sym (framed.silent refl)) ∙ told in cc)
told_before names capture (Some m) opened all framed told = (m, refl)
