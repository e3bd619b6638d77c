-- From line to line of a script.
use Rattle.std.proofs.Common.{◌≡◌, ℕ, ◌+◌, ◌<◌, Bool, true, false, List, [], ◌∷◌, length, drop, get_or, Option, Some, None, Ok, Err, refl, sym}
use Rattle.std.proofs.lemmas.List.{drop_more}
use Rattle.std.proofs.Common.{◌∙◌, ap, subst}
use Rattle.std.specs.Option.{ForSome}
use Rattle.mn_edge.specs.Files.{Files}
use Rattle.mn_capture.specs.Packets.{CaptureView}
use Rattle.mn_perform.specs.Recorded.{told_packets}
use Rattle.mn_script.specs.declared.command.Command.{Command}
use Rattle.mn_perform.specs.declared.ended.Ended.TheVariants as ended
use Rattle.mn_perform.specs.declared.ended.Fault.{Fault}
use Rattle.mn_join_laws.specs.Pairing.{Pairing}
use Rattle.mn_join.specs.Pairs.{PairNow}
use Rattle.mn_join_script.specs.declared.line.JoinLine.{JoinLine}
use Rattle.mn_join_run.specs.Course.{JoinRun, packet_for, with_packet, with_line, unless_stopped, run_from, run_of}
use Rattle.mn_join_run.specs.Report.{refused_texts, exits_file}
use Rattle.mn_join_run.specs.Outside.{Outside, Start, IsCut}
use Rattle.mn_join_run.specs.Playing.{IsPacket, LineWent, IsAt, AllWent}
use Rattle.mn_join_run.specs.declared.desk.Desk.{Desk}
use Rattle.mn_join_run.proofs.Growing.{Grows, script_grows, texts_begin, file_begins}
use Rattle.mn_join_run.proofs.Standing.{cut_more}

-- a line, and those after it
pub drop_at : (lines : List JoinLine) (i : ℕ) (line : JoinLine) → i < length lines → line ≡ get_or lines i line → drop i lines ≡ line ∷ drop (i + 1) lines
drop_at lines i line within is = drop_more lines i line within ∙ ap (λ x. x ∷ drop (i + 1) lines) (sym is)

unstopped : (b : Bool) (now later : JoinRun) → b ≡ false → unless_stopped b now later ≡ later
unstopped false now later h = refl
unstopped true now later h = absurd (let e : true ≡ false = h in cc)

-- nothing follows where a run was stopped
stopped_stays : (pairing : Pairing) (all : List (List ℕ)) (run : JoinRun) (lines : List JoinLine) → run.is_stopped ≡ true → run_from pairing all run lines ≡ run
stopped_stays pairing all run [] h = refl
stopped_stays pairing all run (line ∷ lines) h = ap (λ b. unless_stopped b run (run_from pairing all (with_line pairing all run line) lines)) h

one_line : (pairing : Pairing) (all : List (List ℕ)) (lines : List JoinLine) (i : ℕ) (line : JoinLine) (run : JoinRun) → i < length lines →
    line ≡ get_or lines i line → run.is_stopped ≡ false → run_from pairing all run (drop i lines) ≡ run_of pairing all lines →
    run_from pairing all (with_line pairing all run line) (drop (i + 1) lines) ≡ run_of pairing all lines
one_line pairing all lines i line run within is running rest =
    sym (ap (run_from pairing all run) (drop_at lines i line within is)
    ∙ unstopped run.is_stopped run (run_from pairing all (with_line pairing all run line) (drop (i + 1) lines)) running) ∙ rest

-- a packet that may be what the capture tells: the one that it tells, where it does
abbrev told_or : Option (List (List ℕ)) → Command → Option (List ℕ)
told_or None command = None
told_or (Some all) command = packet_for all command

some_all : (told : Option (List (List ℕ))) (command : Command) → ForSome told (λ all. told_or told command ≡ packet_for all command)
some_all None command = λ all is. absurd (let e : None ≡ Some all = is in cc)
some_all (Some given) command = λ all is. ap (λ x. packet_for x command) (let e : Some given ≡ Some all = is in cc)

-- where the packet couldn't be fetched, that is cut off which stands there
pub line_cut : (pairing : Pairing) (start : Start) (run : JoinRun) (line : JoinLine) (files : Option Files) (capture : CaptureView) (pair : PairNow)
    (desk : Desk)
    (now : Outside) (fault : Fault) →
    ((packet : Option (List ℕ)) → IsCut start (refused_texts (with_packet pairing run line packet)) (exits_file (with_packet pairing run line packet).exits)
    now) →
    LineWent pairing start run line files capture pair desk now (Err fault)
line_cut pairing start run line files capture pair desk now fault cut = record {
  packet = told_or (told_packets files start.names capture) line.command;
  is_packet = some_all (told_packets files start.names capture) line.command;
  went = cut (told_or (told_packets files start.names capture) line.command);
}

module _ (pairing : Pairing) (start : Start) (files later : Option Files) (capture : CaptureView) (lines : List JoinLine) (i : ℕ) (line : JoinLine)
    (within : i < length lines) (is : line ≡ get_or lines i line)
    (same : told_packets later start.names capture ≡ told_packets files start.names capture)
    (run : JoinRun) (running : run.is_stopped ≡ false)
    (rest : ForSome (told_packets files start.names capture) (λ all. run_from pairing all run (drop i lines) ≡ run_of pairing all lines))
    (pair : PairNow) (desk : Desk) (now : Outside) where
  -- the run that a line with this packet leaves is the script's, as far as that is told
  next : (packet : Option (List ℕ)) → IsPacket later start.names capture line.command packet →
      ForSome (told_packets files start.names capture) (λ all.
      run_from pairing all (with_packet pairing run line packet) (drop (i + 1) lines) ≡ run_of pairing all lines)
  next packet is_packet = λ all told.
      ap (λ p. run_from pairing all (with_packet pairing run line p) (drop (i + 1) lines)) (is_packet all (same ∙ told))
      ∙ one_line pairing all lines i line run within is running (rest all told)

  pub goes_on : LineWent pairing start run line later capture pair desk now (Ok ended.All) → IsAt pairing start files capture lines (i + 1) pair desk now
  goes_on h = record { run = with_packet pairing run line h.packet; keeps = h.went; rest = next h.packet h.is_packet }

  pub stops : LineWent pairing start run line later capture pair desk now (Ok ended.TooManySteps) →
      AllWent pairing start files capture lines pair desk now (Ok ended.TooManySteps)
  stops h = record {
    run = with_packet pairing run line h.packet;
    went = h.went;
    whole = λ all told.
        sym (stopped_stays pairing all (with_packet pairing run line h.packet) (drop (i + 1) lines) h.went.0) ∙ next h.packet h.is_packet all told;
  }

  -- cut off in a line: so is the whole run, where that is told
  extend : (told : Option (List (List ℕ))) (one : JoinRun) → ForSome told (λ all. run_from pairing all one (drop (i + 1) lines) ≡ run_of pairing all lines) →
      IsCut start (refused_texts one) (exits_file one.exits) now →
      (whole : JoinRun) × IsCut start (refused_texts whole) (exits_file whole.exits) now × ForSome told (λ all. whole ≡ run_of pairing all lines)
  extend None one rests cut = (one, cut, λ all e. absurd (let f : None ≡ Some all = e in cc))
  extend (Some given) one rests cut =
      let grows : Grows one (run_of pairing given lines) =
      subst (λ x. Grows one x) (rests given refl) (script_grows pairing given one (drop (i + 1) lines)) in (
        run_of pairing given lines,
        cut_more start _ _ _ _ now (texts_begin one (run_of pairing given lines) grows) (file_begins one (run_of pairing given lines) grows) cut,
        λ all e. ap (λ x. run_of pairing x lines) (let f : Some given ≡ Some all = e in cc),
      )

  pub breaks : (fault : Fault) → LineWent pairing start run line later capture pair desk now (Err fault) →
      AllWent pairing start files capture lines pair desk now (Err fault)
  breaks fault h =
      let x = extend (told_packets files start.names capture) (with_packet pairing run line h.packet) (next h.packet h.is_packet) h.went in
      record { run = x.0; went = x.1; whole = x.2 }

drop_all : (lines : List JoinLine) → drop (length lines) lines ≡ []
drop_all [] = refl
drop_all (l ∷ ls) = drop_all ls

-- no line is left
pub all_gone : (pairing : Pairing) (start : Start) (files : Option Files) (capture : CaptureView) (lines : List JoinLine) (i : ℕ) (pair : PairNow) (desk : Desk)
    (now : Outside) → i ≡ length lines → IsAt pairing start files capture lines i pair desk now →
    AllWent pairing start files capture lines pair desk now (Ok ended.All)
all_gone pairing start files capture lines i pair desk now over at = record {
  run = at.run;
  went = at.keeps;
  whole = λ all told. sym (ap (run_from pairing all at.run) (ap (λ n. drop n lines) over ∙ drop_all lines)) ∙ at.rest all told;
}
