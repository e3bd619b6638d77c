-- From line to line of a script.
use Rattle.std.proofs.Common.{◌≡◌, ℕ, ◌+◌, ◌<◌, Bool, true, false, List, [], ◌∷◌, length, drop, get_or, Option, Result, Ok, Err, refl, sym}
use Rattle.std.proofs.lemmas.List.{drop_more}
use Rattle.std.proofs.Common.{◌∙◌, ap, subst}
use Rattle.mn_edge.specs.Files.{Files}
use Rattle.mn_edge.specs.KeptLaws.{begins_on_more}
use Rattle.mn_topo.specs.Network.{Network}
use Rattle.mn_script.specs.declared.command.Line.{Line}
use Rattle.mn_course_laws.specs.Expansion.{Expansion, with_line, unless_stopped, expanded_from, expanded}
use Rattle.mn_output_laws.specs.Report.{note_text}
use Rattle.mn_files.specs.Numbers.{file_at}
use Rattle.mn_net_laws.specs.Now.{NetNow}
use Rattle.mn_perform.specs.Recorded.{BooksNow}
use Rattle.mn_perform.specs.declared.desk.Desk.{Desk}
use Rattle.mn_perform.specs.declared.ended.Ended.{Ended}
use Rattle.mn_perform.specs.declared.ended.Ended.TheVariants as ended
use Rattle.mn_perform.specs.declared.ended.Fault.{Fault}
use Rattle.mn_perform.specs.Running.{Keeps, Went, IsAt}
use Rattle.mn_perform.proofs.Growing.{Grows, script_grows, contents_first, prefix_trans, texts_first}

-- a line, and those after it
pub drop_at : (lines : List Line) (i : ℕ) (line : Line) → i < length lines → line ≡ get_or lines i line → drop i lines ≡ line ∷ drop (i + 1) lines
drop_at lines i line within is = drop_more lines i line within ∙ ap (λ x. x ∷ drop (i + 1) lines) (sym is)

unstopped : (b : Bool) (now later : Expansion) → b ≡ false → unless_stopped b now later ≡ later
unstopped false now later h = refl
unstopped true now later h = absurd (let e : true ≡ false = h in cc)

-- nothing follows where a run was stopped
pub stopped_stays : (t : Network) (all : List (List ℕ)) (run : Expansion) (lines : List Line) → run.is_stopped ≡ true → expanded_from t all run lines ≡ run
stopped_stays t all run [] h = refl
stopped_stays t all run (line ∷ lines) h = ap (λ b. unless_stopped b run (expanded_from t all (with_line t all run line) lines)) h

pub one_line : (t : Network) (all : List (List ℕ)) (lines : List Line) (i : ℕ) (line : Line) (run : Expansion) → i < length lines →
    line ≡ get_or lines i line → run.is_stopped ≡ false
    → expanded_from t all run (drop i lines) ≡ expanded t all lines → expanded_from t all (with_line t all run line) (drop (i + 1) lines) ≡ expanded t all lines
one_line t all lines i line run within is running rest =
    sym (ap (expanded_from t all run) (drop_at lines i line within is)
    ∙ unstopped run.is_stopped run (expanded_from t all (with_line t all run line) (drop (i + 1) lines)) running) ∙ rest

module _ (t : Network) (all : List (List ℕ)) (begun : Option (List ℕ)) (lines : List Line) (i : ℕ) (line : Line) (within : i < length lines)
    (is : line ≡ get_or lines i line)
    (run : Expansion) (running : run.is_stopped ≡ false) (rest : expanded_from t all run (drop i lines) ≡ expanded t all lines)
    (net : NetNow) (books : BooksNow) (desk : Desk) (files : Option Files) (written : Option (List ℕ)) where
  next : expanded_from t all (with_line t all run line) (drop (i + 1) lines) ≡ expanded t all lines
  next = one_line t all lines i line run within is running rest

  pub goes_on : Went t all begun (with_line t all run line) net books desk files written (Ok ended.All) →
      IsAt t all begun lines (i + 1) net books desk files written
  goes_on went = record { run = with_line t all run line; keeps = went.0; running = went.1; rest = next }

  pub stops : Went t all begun (with_line t all run line) net books desk files written (Ok ended.TooManySteps)
      → Went t all begun (expanded t all lines) net books desk files written (Ok ended.TooManySteps)
  stops went =
      subst (λ x. Went t all begun x net books desk files written (Ok ended.TooManySteps))
      (sym (stopped_stays t all (with_line t all run line) (drop (i + 1) lines) went.1) ∙ next) went

  pub breaks : (fault : Fault) → Went t all begun (with_line t all run line) net books desk files written (Err fault)
      → Went t all begun (expanded t all lines) net books desk files written (Err fault)
  breaks fault went =
      let grows : Grows (with_line t all run line) (expanded t all lines) =
      subst (λ x. Grows (with_line t all run line) x) next (script_grows t all (with_line t all run line) (drop (i + 1) lines)) in
      record {
        begins = begins_on_more _ _ _ _
            (λ k. contents_first t all (with_line t all run line).past.entries (expanded t all lines).past.entries (file_at t k) grows.entries) went.begins;
        text = λ before is.
            let p = went.text before is in
            (p.0, prefix_trans _ _ _ p.1 (texts_first (note_text t all) (with_line t all run line).notes (expanded t all lines).notes grows.notes), p.2);
      }

pub drop_all : (lines : List Line) → drop (length lines) lines ≡ []
drop_all [] = refl
drop_all (l ∷ ls) = drop_all ls

-- no line is left
pub all_gone : (t : Network) (all : List (List ℕ)) (begun : Option (List ℕ)) (lines : List Line) (i : ℕ) (net : NetNow) (books : BooksNow) (desk : Desk)
    (files : Option Files)
    (written : Option (List ℕ)) → i ≡ length lines → IsAt t all begun lines i net books desk files written →
    Went t all begun (expanded t all lines) net books desk files written (Ok ended.All)
all_gone t all begun lines i net books desk files written over at =
    subst (λ x. Went t all begun x net books desk files written (Ok ended.All))
    (sym (ap (expanded_from t all at.run) (ap (λ n. drop n lines) over ∙ drop_all lines)) ∙ at.rest) (at.keeps, at.running)

-- what a line comes to, where the topology is given by another name
pub line_went : (t t_now : Network) (all : List (List ℕ)) (begun : Option (List ℕ)) (run : Expansion) (line : Line) (old : NetNow) (books_old : BooksNow)
    (desk_old : Desk)
    (files_old : Option Files) (written_old : Option (List ℕ)) (net : NetNow) (books : BooksNow) (desk : Desk) (files : Option Files)
    (written : Option (List ℕ)) (result : Result Ended Fault)
    → t_now ≡ t
    → ((begun : Option (List ℕ)) (run : Expansion) → run.is_stopped ≡ false → Keeps t_now all begun run old books_old desk_old files_old written_old →
    Went t_now all begun (with_line t_now all run line) net books desk files written result)
    → run.is_stopped ≡ false → Keeps t all begun run old books_old desk_old files_old written_old →
    Went t all begun (with_line t all run line) net books desk files written result
line_went t t_now all begun run line old books_old desk_old files_old written_old net books desk files written result same went running keeps =
    subst (λ x. Went x all begun (with_line x all run line) net books desk files written result) same
    (went begun run running (subst (λ x. Keeps x all begun run old books_old desk_old files_old written_old) (sym same) keeps))
