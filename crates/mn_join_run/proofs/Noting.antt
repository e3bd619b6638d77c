-- A line that was played is noted.
use Rattle.std.proofs.Common.{◌≡◌, ℕ, List, [], ◌∷◌, ◌++◌, append-nil, Option, refl, sym, ◌∙◌, ap, subst}
use Rattle.std.specs.List.{flat_map}
use Rattle.mn_edge.specs.Files.{Files}
use Rattle.mn_course_laws.specs.declared.coming.Ending.{Ending}
use Rattle.mn_course_laws.specs.declared.coming.Ending.TheVariants as ending
use Rattle.mn_lines.specs.Lines.{refused_line}
use Rattle.mn_lines.specs.Putting.{Puts, PutsPart}
use Rattle.mn_join_laws.specs.Pairing.{Pairing}
use Rattle.mn_join_laws.specs.Course.{Exit, PairCourse}
use Rattle.mn_join_script.specs.declared.line.JoinLine.{JoinLine}
use Rattle.mn_join_run.specs.Course.{JoinRun, goes_on, with_refusal, after_course}
use Rattle.mn_join_run.specs.Report.{refused_texts, exit_record, exits_file}
use Rattle.mn_join_run.specs.Outside.{Outside, outside, Start, Stands, IsCut, Holding, Beginning}
use Rattle.mn_join_run.proofs.Growing.{Grows, texts_more, file_more, texts_begin, file_begins}
use Rattle.mn_join_run.proofs.Standing.{cut_more, cut_here, file_on, text_on, file_cut, text_cut}

-- what is told of a line comes behind what has happened by its course
pub mid_grows : (pairing : Pairing) (run : JoinRun) (line : JoinLine) (course : PairCourse) (how : Ending) →
    Grows (goes_on run course) (after_course pairing run line course how)
mid_grows pairing run line course ending.All =
    record { more_refused = []; refused = sym (append-nil run.refused); more_exits = []; exits = sym (append-nil _) }
mid_grows pairing run line course (ending.Refused cause) = record { more_refused = _; refused = refl; more_exits = []; exits = sym (append-nil _) }
mid_grows pairing run line course ending.NoRecord = record { more_refused = _; refused = refl; more_exits = []; exits = sym (append-nil _) }
mid_grows pairing run line course ending.TooManySteps =
    record { more_refused = []; refused = sym (append-nil run.refused); more_exits = []; exits = sym (append-nil _) }

-- a refused line more
pub one_refused : (run : JoinRun) (number : ℕ) (cause : List ℕ) → refused_texts (with_refusal run number cause) ≡ refused_texts run ++ refused_line number cause
one_refused run number cause =
    texts_more run (run.refused ++ record { line = number; cause = cause } ∷ []) (record { line = number; cause = cause } ∷ []) refl
    ∙ ap (λ l. refused_texts run ++ l) (append-nil (refused_line number cause))

module _ (start : Start) (run : JoinRun) (course : PairCourse) (exits : List Exit) (same : exits ≡ course.exits)
    (waits : List ℕ) (written : Option (List ℕ)) (held later : List (List ℕ)) (f g : Option Files)
    (stands : Stands start (refused_texts run) (exits_file run.exits) (outside waits written held f)) where
  out_is : exits_file run.exits ++ flat_map exit_record exits ≡ exits_file (goes_on run course).exits
  out_is =
      ap (λ x. exits_file run.exits ++ flat_map exit_record x) same ∙ sym (file_more run.exits (run.exits ++ course.exits) course.exits refl)

  -- what came out was put
  pub stands_out : ((before : List ℕ) → Holding start.names before held f → Holding start.names (before ++ flat_map exit_record exits) later g) →
      Stands start (refused_texts (goes_on run course)) (exits_file (goes_on run course).exits) (outside waits written later g)
  stands_out grown =
      subst (λ b. Stands start (refused_texts run) b (outside waits written later g)) out_is
      (file_on start (refused_texts run) (exits_file run.exits) (flat_map exit_record exits) waits written held later f g grown stands)

  -- or that was cut off
  pub cut_out : (waiting : List ℕ) (last : List (List ℕ)) →
      ((before : List ℕ) → Holding start.names before held f → Beginning start.names (before ++ flat_map exit_record exits) g) →
      IsCut start (refused_texts (goes_on run course)) (exits_file (goes_on run course).exits) (outside waiting written last g)
  cut_out waiting last grown =
      subst (λ b. IsCut start (refused_texts run) b (outside waiting written last g)) out_is
      (file_cut start (refused_texts run) (exits_file run.exits) (flat_map exit_record exits) waits waiting written held last f g grown stands)

-- what was cut off behind what happened by the course is cut off behind all that is told of the line
pub cut_noted : (pairing : Pairing) (start : Start) (run : JoinRun) (line : JoinLine) (course : PairCourse) (how : Ending) (now : Outside) →
    IsCut start (refused_texts (goes_on run course)) (exits_file (goes_on run course).exits) now →
    IsCut start (refused_texts (after_course pairing run line course how)) (exits_file (after_course pairing run line course how).exits) now
cut_noted pairing start run line course how now cut =
    let grows : Grows (goes_on run course) (after_course pairing run line course how) = mid_grows pairing run line course how in
    cut_more start _ _ _ _ now (texts_begin (goes_on run course) (after_course pairing run line course how) grows)
    (file_begins (goes_on run course) (after_course pairing run line course how) grows) cut

-- the same of what stands there
pub stood_noted : (pairing : Pairing) (start : Start) (run : JoinRun) (line : JoinLine) (course : PairCourse) (how : Ending) (now : Outside) →
    Stands start (refused_texts (goes_on run course)) (exits_file (goes_on run course).exits) now →
    IsCut start (refused_texts (after_course pairing run line course how)) (exits_file (after_course pairing run line course how).exits) now
stood_noted pairing start run line course how now stands =
    cut_noted pairing start run line course how now (cut_here start (refused_texts (goes_on run course)) (exits_file (goes_on run course).exits) now stands)

-- a refused line was put
pub refused_on : (start : Start) (run : JoinRun) (number : ℕ) (cause : List ℕ) (waits waiting : List ℕ) (written now : Option (List ℕ)) (held : List (List ℕ))
    (f : Option Files) → Puts (refused_line number cause) waits waiting written now →
    Stands start (refused_texts run) (exits_file run.exits) (outside waits written held f) →
    Stands start (refused_texts (with_refusal run number cause)) (exits_file (with_refusal run number cause).exits) (outside waiting now held f)
refused_on start run number cause waits waiting written now held f put stands =
    subst (λ t. Stands start t (exits_file run.exits) (outside waiting now held f)) (sym (one_refused run number cause))
    (text_on start (refused_texts run) (exits_file run.exits) (refused_line number cause) waits waiting written now held f put stands)

pub refused_cut : (start : Start) (run : JoinRun) (number : ℕ) (cause : List ℕ) (waits waiting : List ℕ) (written now : Option (List ℕ))
    (held last : List (List ℕ))
    (f : Option Files) → PutsPart (refused_line number cause) waits written now →
    Stands start (refused_texts run) (exits_file run.exits) (outside waits written held f) →
    IsCut start (refused_texts (with_refusal run number cause)) (exits_file (with_refusal run number cause).exits) (outside waiting now last f)
refused_cut start run number cause waits waiting written now held last f put stands =
    subst (λ t. IsCut start t (exits_file run.exits) (outside waiting now last f)) (sym (one_refused run number cause))
    (text_cut start (refused_texts run) (exits_file run.exits) (refused_line number cause) waits waiting written now held last f put stands)
