-- What a line makes of a run part way.
use Rattle.std.proofs.Common.{◌≡◌, ℕ, ◌+◌, true, false, List, [], ◌∷◌, ◌++◌, map, length, filter, append-nil, length-append, Option}
use Rattle.std.proofs.Common.{Some, Ok, Err, refl, sym, ◌∙◌, ap, subst, arith}
use Rattle.std.specs.List.{flat_map}
use Rattle.std.proofs.lemmas.List.Concat.{flat_map-append}
use Rattle.std.proofs.lemmas.List.Elements.{filter-append}
use Rattle.mn_edge.specs.Files.{Files}
use Rattle.mn_edge.specs.Kept.{HoldsOn, BeginsOn}
use Rattle.mn_edge.specs.KeptLaws.{begins_on, begins_on_more}
use Rattle.mn_topo.specs.Network.{Network}
use Rattle.mn_script.specs.declared.command.Command.{Command}
use Rattle.mn_script.specs.declared.command.Command.TheVariants.{Do, Damage, Run, Drain, Flush, Show}
use Rattle.mn_script.specs.declared.command.Line.{Line}
use Rattle.mn_script.specs.declared.command.Show as show
use Rattle.mn_course_laws.specs.declared.coming.Ending.{Ending}
use Rattle.mn_course_laws.specs.declared.coming.Ending.TheVariants as ending
use Rattle.mn_course_laws.specs.Course.{Past, Course, inputs_of, played}
use Rattle.mn_course_laws.specs.Expansion.{Note, Refusal, Missing, Table, SentLine, Expansion, sending_by, table_by, after_line, with_line}
use Rattle.mn_lines.specs.Putting.{PutOn, PartPut, Puts, PutsPart}
use Rattle.mn_output_laws.specs.Report.{packet_for, note_text, count, is_refusal}
use Rattle.mn_output_laws.specs.Tables.{table_text}
use Rattle.mn_files.specs.Numbers.{file_at}
use Rattle.mn_net_laws.specs.Now.{NetNow}
use Rattle.mn_sched.specs.Playing.{past_of, is_show, IsFirstPart, Takes}
use Rattle.mn_sched.specs.declared.line.Played.{Played}
use Rattle.mn_sched.specs.declared.line.Played.TheVariants.{All, Refused, NoRecord}
use Rattle.mn_sched.specs.declared.line.Stopped.TheVariants.{TooManySteps}
use Rattle.mn_perform.specs.Recorded.{BooksNow, contents_at, RecordedAfter}
use Rattle.mn_report.specs.Shown.{sending_of}
use Rattle.mn_perform.specs.declared.desk.Desk.{Desk}
use Rattle.mn_perform.specs.declared.ended.Ended.TheVariants as ended
use Rattle.mn_perform.specs.declared.ended.Fault.{Fault}
use Rattle.mn_perform.specs.Running.{line_text, refusals_by, sendings_by, Notes, notes_text, Keeps, Went}
use Rattle.mn_perform.proofs.Growing.{line_grows, contents_first, prefix_trans, texts_first}

-- 1. Notes

abbrev pub notes_by : Line → Played → List Note
notes_by line All = []
notes_by line (Refused cause) = Refusal line.number cause ∷ []
notes_by line NoRecord = Missing line.number ∷ []

notes_say : (t : Network) (all : List (List ℕ)) (line : Line) (played : Played) →
    flat_map (note_text t all) (notes_by line played) ≡ line_text t line.number played
notes_say t all line All = refl
notes_say t all line (Refused cause) = append-nil _
notes_say t all line NoRecord = append-nil _

pub notes_count : (line : Line) (played : Played) → count is_refusal (notes_by line played) ≡ refusals_by played
notes_count line All = refl
notes_count line (Refused cause) = refl
notes_count line NoRecord = refl

pub count_more : (notes more : List Note) → count is_refusal (notes ++ more) ≡ count is_refusal notes + count is_refusal more
count_more notes more = ap length (filter-append is_refusal notes more) ∙ length-append (filter is_refusal notes) (filter is_refusal more)

-- 2. The run after a line

abbrev pub then_run : Expansion → Past → List Note → List SentLine → Expansion
then_run run past notes sendings = record run { past = past; notes = run.notes ++ notes; sendings = run.sendings ++ sendings }

no_table : (past : Past) (command : Command) → is_show command ≡ false → table_by past command ≡ []
no_table past (Show table) h = absurd (let e : true ≡ false = h in cc)
no_table past (Do s) h = refl
no_table past (Damage d) h = refl
no_table past (Run ticks) h = refl
no_table past (Drain most) h = refl
no_table past Flush h = refl

-- a command that asks for no table
pub not_shown : (command : Command) → ((table : show.Show) → command ≡ Show table → ⊥) → is_show command ≡ false
not_shown (Show table) none = absurd (none table refl)
not_shown (Do s) none = refl
not_shown (Damage d) none = refl
not_shown (Run ticks) none = refl
not_shown (Drain most) none = refl
not_shown Flush none = refl

-- the ending of a line that was played
abbrev pub EndsSo : Played → Ending → Type 0
EndsSo All how = how ≡ ending.All
EndsSo (Refused cause) how = how ≡ ending.Refused cause
EndsSo NoRecord how = how ≡ ending.NoRecord

after_played : (run : Expansion) (line : Line) (past : Past) (played : Played) (how : Ending) → is_show line.command ≡ false →
    (course : Course) → course.past ≡ past
    → course.ending ≡ how → EndsSo played how →
    after_line run line course.past course.ending ≡ then_run run past (notes_by line played) (sendings_by line played)
after_played run line past All how shows course p e h =
    ap (λ x. after_line run line x course.ending) p ∙ ap (after_line run line past) (e ∙ h)
    ∙ ap (λ n. record run { past = past; notes = run.notes ++ n; sendings = run.sendings ++ sending_by line.number line.command })
    (no_table past line.command shows)
after_played run line past (Refused cause) how shows course p e h =
    ap (λ x. after_line run line x course.ending) p ∙ ap (after_line run line past) (e ∙ h)
    ∙ ap (λ s. record run { past = past; notes = run.notes ++ Refusal line.number cause ∷ []; sendings = s }) (sym (append-nil run.sendings))
after_played run line past NoRecord how shows course p e h =
    ap (λ x. after_line run line x course.ending) p ∙ ap (after_line run line past) (e ∙ h)
    ∙ ap (λ s. record run { past = past; notes = run.notes ++ Missing line.number ∷ []; sendings = s }) (sym (append-nil run.sendings))

-- the clock and the journal of a net that keeps a running run
pub past_is : (t : Network) (all : List (List ℕ)) (begun : Option (List ℕ)) (run : Expansion) (net : NetNow) (books : BooksNow) (desk : Desk)
    (files : Option Files) (written : Option (List ℕ)) →
    run.is_stopped ≡ false → Keeps t all begun run net books desk files written → past_of net ≡ run.past
past_is t all begun run net books desk files written running keeps =
    ap (λ c. record { clock = c; entries = net.journal }) (keeps.clock running) ∙ ap (λ e. record { clock = run.past.clock; entries = e }) keeps.journal

pub played_is : (t : Network) (all : List (List ℕ)) (run : Expansion) (line : Line) (old new : NetNow) (played_so : Played) → is_show line.command ≡ false →
    past_of old ≡ run.past →
    Takes (played t all (past_of old) line.command) new (Ok played_so) →
    with_line t all run line ≡ then_run run (past_of new) (notes_by line played_so) (sendings_by line played_so)
played_is t all run line old new All shows past takes =
    let course : Course = played t all run.past line.command in
    let takes_now : Takes course new (Ok All) = subst (λ p. Takes (played t all p line.command) new (Ok All)) past takes in
    after_played run line (past_of new) All ending.All shows course (sym takes_now.1) takes_now.0 refl
played_is t all run line old new (Refused cause) shows past takes =
    let course : Course = played t all run.past line.command in
    let takes_now : Takes course new (Ok (Refused cause)) = subst (λ p. Takes (played t all p line.command) new (Ok (Refused cause))) past takes in
    after_played run line (past_of new) (Refused cause) (ending.Refused cause) shows course (sym takes_now.1) takes_now.0 refl
played_is t all run line old new NoRecord shows past takes =
    let course : Course = played t all run.past line.command in
    let takes_now : Takes course new (Ok NoRecord) = subst (λ p. Takes (played t all p line.command) new (Ok NoRecord)) past takes in
    after_played run line (past_of new) NoRecord ending.NoRecord shows course (sym takes_now.1) takes_now.0 refl

-- what the notes of a run say, and some more
text_more : (t : Network) (all : List (List ℕ)) (run : Expansion) (past : Past) (notes : List Note) (sendings : List SentLine) →
    notes_text t all (then_run run past notes sendings) ≡ notes_text t all run ++ flat_map (note_text t all) notes
text_more t all run past notes sendings = flat_map-append (note_text t all) run.notes notes

pub line_past : (before : Expansion) (line : Line) (past : Past) (how : Ending) → (after_line before line past how).past ≡ past
line_past before line past ending.All = refl
line_past before line past (ending.Refused why) = refl
line_past before line past ending.NoRecord = refl
line_past before line past ending.TooManySteps = refl

module _ (t : Network) (all : List (List ℕ)) (begun : Option (List ℕ)) (run : Expansion) (line : Line) (old new : NetNow) (books_old books : BooksNow)
    (desk desk_new : Desk)
    (files files_new : Option Files) (written written_new : Option (List ℕ)) (running : run.is_stopped ≡ false)
    (keeps : Keeps t all begun run old books_old desk files written) where
  past : past_of old ≡ run.past
  past = past_is t all begun run old books_old desk files written running keeps

  -- 3. A line that was played

  pub line_noted : (played_so : Played) → is_show line.command ≡ false → Takes (played t all (past_of old) line.command) new (Ok played_so) →
      new.topology ≡ old.topology
      → RecordedAfter all books new files_new (Ok played_so) → Notes t line played_so desk desk_new written written_new
      → Went t all begun (with_line t all run line) new books desk_new files_new written_new (Ok ended.All)
  line_noted played_so shows takes topology after notes =
      let same = played_is t all run line old new played_so shows past takes in
      let topology_is : new.topology ≡ t = topology ∙ keeps.topology_is in
      subst (λ x. Went t all begun x new books desk_new files_new written_new (Ok ended.All)) (sym same) (
        record {
          topology_is = topology_is;
          journal = refl;
          clock = λ _. refl;
          stands = after.0;
          holds = subst (λ n. HoldsOn books.names (contents_at n all new.journal) books.held files_new) topology_is after.1;
          sendings = notes.sendings ∙ ap (λ s. s ++ sendings_by line played_so) keeps.sendings;
          refused = notes.refused ∙ ap (λ n. n + refusals_by played_so) keeps.refused
              ∙ sym (count_more run.notes (notes_by line played_so) ∙ ap (λ n. count is_refusal run.notes + n) (notes_count line played_so));
          text = λ before is.
              subst (λ x. PutOn before x desk_new.page written_new)
              (sym (text_more t all run (past_of new) (notes_by line played_so) (sendings_by line played_so)
              ∙ ap (λ l. notes_text t all run ++ l) (notes_say t all line played_so)))
              (notes.text before (notes_text t all run) (keeps.text before is));
        },
        running,
      )

  -- played, and cut off as it was noted
  pub line_cut : (fault : Fault) (played_so : Played) → is_show line.command ≡ false → Takes (played t all (past_of old) line.command) new (Ok played_so) →
      new.topology ≡ old.topology
      → RecordedAfter all books new files_new (Ok played_so) → PutsPart (line_text t line.number played_so) desk.page written written_new
      → Went t all begun (with_line t all run line) new books desk_new files_new written_new (Err fault)
  line_cut fault played_so shows takes topology after part =
      let same = played_is t all run line old new played_so shows past takes in
      let topology_is : new.topology ≡ t = topology ∙ keeps.topology_is in
      subst (λ x. Went t all begun x new books desk_new files_new written_new (Err fault)) (sym same)
      (record {
        begins = begins_on _ _ _ _ (subst (λ n. HoldsOn books.names (contents_at n all new.journal) books.held files_new) topology_is after.1);
        text = λ before is.
            subst (λ x. PartPut x before written_new)
            (sym (text_more t all run (past_of new) (notes_by line played_so) (sendings_by line played_so)
            ∙ ap (λ l. notes_text t all run ++ l) (notes_say t all line played_so)))
            (part before (notes_text t all run) (keeps.text before is));
      })

  -- 4. A line that a full journal stopped

  pub line_stopped : Takes (played t all (past_of old) line.command) new (Err TooManySteps) → new.topology ≡ old.topology →
      RecordedAfter {T = Played} all books new files_new (Err TooManySteps)
      → Went t all begun (with_line t all run line) new books desk files_new written (Ok ended.TooManySteps)
  line_stopped takes topology after =
      let course : Course = played t all run.past line.command in
      let takes_now : Takes course new (Err TooManySteps) = subst (λ p. Takes (played t all p line.command) new (Err TooManySteps)) past takes in
      let topology_is : new.topology ≡ t = topology ∙ keeps.topology_is in
      subst (λ h. Went t all begun (after_line run line course.past h) new books desk files_new written (Ok ended.TooManySteps)) (sym takes_now.0) (
        record {
          topology_is = topology_is;
          journal = takes_now.1;
          clock = λ h. absurd (let e : true ≡ false = h in cc);
          stands = after.0;
          holds = subst (λ n. HoldsOn books.names (contents_at n all new.journal) books.held files_new) topology_is after.1;
          sendings = keeps.sendings;
          refused = keeps.refused;
          text = keeps.text;
        },
        refl,
      )

  -- 5. A line that was cut off

  first_of_text : (before : List ℕ) → begun ≡ Some before → PartPut (notes_text t all (with_line t all run line)) before written
  first_of_text before is =
      let on = keeps.text before is in
      let grows = line_grows t all run line in
      (on.part, prefix_trans _ _ _ (desk.page, on.whole) (texts_first (note_text t all) run.notes (with_line t all run line).notes grows.notes), on.told)

  pub line_broken : (fault : Fault) → IsFirstPart new.journal (played t all (past_of old) line.command).past.entries → new.topology ≡ old.topology
      → BeginsOn books.names (contents_at new.topology all new.journal) files_new
      → Went t all begun (with_line t all run line) new books desk_new files_new written (Err fault)
  line_broken fault first topology begins =
      let course : Course = played t all run.past line.command in
      let first_now : IsFirstPart new.journal course.past.entries =
      subst (λ p. IsFirstPart new.journal (played t all p line.command).past.entries) past first in
      let entries : IsFirstPart new.journal (with_line t all run line).past.entries =
      subst (λ (p : Past). IsFirstPart new.journal p.entries) (sym (line_past run line course.past course.ending)) first_now in
      record {
        begins = begins_on_more _ _ _ _ (λ k. contents_first t all new.journal (with_line t all run line).past.entries (file_at t k) entries)
            (subst (λ n. BeginsOn books.names (contents_at n all new.journal) files_new) (topology ∙ keeps.topology_is) begins);
        text = first_of_text;
      }

-- 6. A table

module _ (t : Network) (all : List (List ℕ)) (begun : Option (List ℕ)) (run : Expansion) (number : ℕ) (table : show.Show) (net : NetNow) (books : BooksNow)
    (desk desk_new : Desk)
    (files : Option Files) (written written_new : Option (List ℕ)) (running : run.is_stopped ≡ false)
    (keeps : Keeps t all begun run net books desk files written) where
  abbrev showing : Line
  showing = record { number = number; command = Show table }

  says : notes_text t all (with_line t all run showing) ≡ notes_text t all run ++ table_text net.topology net.journal (inputs_of all net.journal)
      (packet_for all table) table
  says =
      flat_map-append (note_text t all) run.notes (Table table run.past ∷ [])
      ∙ ap (λ l. notes_text t all run ++ l)
      (append-nil (table_text t run.past.entries (inputs_of all run.past.entries) (packet_for all table) table)
      ∙ ap (λ e. table_text t e (inputs_of all e) (packet_for all table) table) (sym keeps.journal)
      ∙ ap (λ n. table_text n net.journal (inputs_of all net.journal) (packet_for all table) table) (sym keeps.topology_is))

  pub table_put : Puts (table_text net.topology net.journal (inputs_of all net.journal) (packet_for all table) table) desk.page desk_new.page written
      written_new
      → desk_new.sendings ≡ desk.sendings → desk_new.refused ≡ desk.refused
      → Went t all begun (with_line t all run showing) net books desk_new files written_new (Ok ended.All)
  table_put puts sendings refused = (
    record {
      topology_is = keeps.topology_is;
      journal = keeps.journal;
      clock = keeps.clock;
      stands = keeps.stands;
      holds = keeps.holds;
      sendings = ap (λ s. map sending_of s.items) sendings ∙ keeps.sendings ∙ sym (append-nil run.sendings);
      refused =
          refused ∙ keeps.refused
          ∙ sym (count_more run.notes (Table table run.past ∷ []) ∙ let e : count is_refusal run.notes + 0 ≡ count is_refusal run.notes = omega arith in e);
      text = λ before is. subst (λ x. PutOn before x desk_new.page written_new) (sym says) (puts before (notes_text t all run) (keeps.text before is));
    },
    running,
  )

  pub table_cut : (fault : Fault) →
      PutsPart (table_text net.topology net.journal (inputs_of all net.journal) (packet_for all table) table) desk.page written written_new
      → Went t all begun (with_line t all run showing) net books desk_new files written_new (Err fault)
  table_cut fault part = record {
    begins = begins_on _ _ _ _ (subst (λ e. HoldsOn books.names (contents_at t all e) books.held files) keeps.journal keeps.holds);
    text = λ before is. subst (λ x. PartPut x before written_new) (sym says) (part before (notes_text t all run) (keeps.text before is));
  }
