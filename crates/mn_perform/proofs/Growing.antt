-- What has happened stays: journal, notes and contents of files only grow over a script.
use Rattle.std.proofs.Common.{◌≡◌, ℕ, ◌+◌, Bool, true, false, List, [], ◌∷◌, ◌++◌, append_assoc, refl, sym, ◌∙◌, ap, subst}
use Rattle.std.specs.List.{flat_map}
use Rattle.std.proofs.lemmas.List.{append-nil}
use Rattle.std.proofs.lemmas.List.Concat.{flat_map-append}
use Rattle.mn_edge.specs.Written.{IsPrefix}
use Rattle.mn_topo.specs.Network.{Network}
use Rattle.mn_topo.specs.declared.steps.JournalEntry.{JournalEntry}
use Rattle.mn_script.specs.declared.command.Command.{Command}
use Rattle.mn_entry.specs.Damages.{number_of}
use Rattle.mn_script.specs.declared.command.Command.TheVariants.{Do, Damage, Run, Drain, Flush, Show}
use Rattle.mn_script.specs.declared.command.Line.{Line}
use Rattle.mn_course_laws.specs.declared.coming.Arrivals.TheVariants.{DueBy, News, AllFrames}
use Rattle.mn_course_laws.specs.declared.coming.Ending.{Ending}
use Rattle.mn_course_laws.specs.declared.coming.Ending.TheVariants as ending
use Rattle.mn_course_laws.specs.Course.{Past, Course, record_of, deliver, all, until, most_of, played}
use Rattle.mn_course_laws.specs.Expansion.{Note, Expansion, after_line, with_line, unless_stopped, expanded_from}
use Rattle.mn_sched.specs.Playing.{IsFirstPart}
use Rattle.mn_sched.proofs.Delivering.{first_part_refl, first_part_trans, deliver_more}
use Rattle.mn_sched.proofs.Telling.{stepped_more, damaged_more}
use Rattle.mn_output_laws.specs.Files.{OutputFile}
use Rattle.mn_output_laws.specs.Moments.{Moment, moments_from, moments_of}
use Rattle.mn_output_laws.specs.Contents.{contents, adds, head_of}

-- 1. A line

module _ (t : Network) (capture : List (List ℕ)) where
  until_more : (past later : Past) (end : ℕ) (how : Ending) → IsFirstPart past.entries later.entries →
      IsFirstPart past.entries (until end later how).past.entries
  until_more past later end ending.All h = h
  until_more past later end (ending.Refused why) h = h
  until_more past later end ending.NoRecord h = h
  until_more past later end ending.TooManySteps h = h

  pub played_more : (past : Past) (command : Command) → IsFirstPart past.entries (played t capture past command).past.entries
  played_more past (Do s) = stepped_more t capture past s
  played_more past (Damage d) = damaged_more t capture past d (record_of capture (number_of d))
  played_more past (Run ticks) =
      let course : Course = deliver t capture (DueBy (past.clock + ticks)) all past in
      until_more past course.past (past.clock + ticks) course.ending (deliver_more t capture (DueBy (past.clock + ticks)) all past)
  played_more past (Drain most) = deliver_more t capture News (most_of most) past
  played_more past Flush = deliver_more t capture AllFrames all past
  played_more past (Show table) = first_part_refl past.entries

-- 2. A script

-- the notes of one are the first of the other's
abbrev pub BeginsNotes : List Note → List Note → Type 0
BeginsNotes front notes = (rest : List Note) × (front ++ rest ≡ notes)

-- journal and notes have grown
pub record Grows (old new : Expansion) : Type 0 where
  pub entries : IsFirstPart old.past.entries new.past.entries
  pub notes : BeginsNotes old.notes new.notes

pub grows_not : (e : Expansion) → Grows e e
grows_not e = record { entries = first_part_refl e.past.entries; notes = ([], append-nil e.notes) }

pub grows_on : (a b c : Expansion) → Grows a b → Grows b c → Grows a c
grows_on a b c h g = record {
  entries = first_part_trans _ _ _ h.entries g.entries;
  notes = (h.notes.0 ++ g.notes.0, sym (append_assoc a.notes h.notes.0 g.notes.0) ∙ ap (λ l. l ++ g.notes.0) h.notes.1 ∙ g.notes.1);
}

after_more : (before : Expansion) (line : Line) (past : Past) (how : Ending) → IsFirstPart before.past.entries past.entries →
    Grows before (after_line before line past how)
after_more before line past ending.All h = record { entries = h; notes = (_, refl) }
after_more before line past (ending.Refused why) h = record { entries = h; notes = (_, refl) }
after_more before line past ending.NoRecord h = record { entries = h; notes = (_, refl) }
after_more before line past ending.TooManySteps h = record { entries = h; notes = ([], append-nil before.notes) }

pub line_grows : (t : Network) (capture : List (List ℕ)) (before : Expansion) (line : Line) → Grows before (with_line t capture before line)
line_grows t capture before line =
    let course : Course = played t capture before.past line.command in
    after_more before line course.past course.ending (played_more t capture before.past line.command)

unless_grows : (b : Bool) (now later : Expansion) → Grows now later → Grows now (unless_stopped b now later)
unless_grows true now later h = grows_not now
unless_grows false now later h = h

pub script_grows : (t : Network) (capture : List (List ℕ)) (now : Expansion) (lines : List Line) → Grows now (expanded_from t capture now lines)
script_grows t capture now [] = grows_not now
script_grows t capture now (line ∷ lines) =
    unless_grows now.is_stopped now (expanded_from t capture (with_line t capture now line) lines)
    (grows_on now (with_line t capture now line) _ (line_grows t capture now line) (script_grows t capture (with_line t capture now line) lines))

-- 3. Contents

moments_more : (before entries rest : List JournalEntry) →
    moments_from before (entries ++ rest) ≡ moments_from before entries ++ moments_from (before ++ entries) rest
moments_more before [] rest = ap (λ b. moments_from b rest) (sym (append-nil before))
moments_more before (entry ∷ entries) rest =
    ap (λ moments. record { before = before; entry = entry } ∷ moments)
    (moments_more (before ++ entry ∷ []) entries rest
    ∙ ap (λ b. moments_from (before ++ entry ∷ []) entries ++ moments_from b rest) (append_assoc before (entry ∷ []) entries))

pub contents_more : (t : Network) (capture : List (List ℕ)) (entries rest : List JournalEntry) (out : OutputFile) →
    IsPrefix (contents t capture entries out) (contents t capture (entries ++ rest) out)
contents_more t capture entries rest out =
    let each : Moment → List ℕ = adds t capture out in (
      flat_map each (moments_from entries rest),
      append_assoc (head_of out) (flat_map each (moments_of entries)) (flat_map each (moments_from entries rest))
          ∙ ap (λ l. head_of out ++ l) (sym (flat_map-append each (moments_of entries) (moments_from entries rest))
          ∙ ap (flat_map each) (sym (moments_more [] entries rest))),
    )

pub contents_first : (t : Network) (capture : List (List ℕ)) (front entries : List JournalEntry) (out : OutputFile) → IsFirstPart front entries →
    IsPrefix (contents t capture front out) (contents t capture entries out)
contents_first t capture front entries out h =
    subst (λ es. IsPrefix (contents t capture front out) (contents t capture es out)) h.1 (contents_more t capture front h.0 out)

-- 4. Texts

pub prefix_trans : (a b c : List ℕ) → IsPrefix a b → IsPrefix b c → IsPrefix a c
prefix_trans a b c h g = (h.0 ++ g.0, sym (append_assoc a h.0 g.0) ∙ ap (λ l. l ++ g.0) h.1 ∙ g.1)

pub texts_first : (f : Note → List ℕ) (front notes : List Note) → BeginsNotes front notes → IsPrefix (flat_map f front) (flat_map f notes)
texts_first f front notes h = (flat_map f h.0, sym (flat_map-append f front h.0) ∙ ap (flat_map f) h.1)
