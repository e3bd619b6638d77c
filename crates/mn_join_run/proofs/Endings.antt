-- How a run ends: its file, and its report.
use Rattle.std.proofs.Common.{◌≡◌, ℕ, List, ◌++◌, append_assoc, Option, Some, Ok, Err, inl, inr, sym, ◌∙◌, ap, subst}
use Rattle.std.specs.Prelude.{⊤}
use Rattle.mn_edge.specs.Files.{Files, file}
use Rattle.mn_edge.specs.Kept.{Framed}
use Rattle.mn_edge.specs.Laid.{part_written, all_begun, whole_part}
use Rattle.mn_edge.specs.Written.{laid, PartWritten, AllBegun}
use Rattle.mn_lines.specs.Putting.{PartPut}
use Rattle.mn_lines.proofs.Putting.{ended}
use Rattle.mn_perform.specs.declared.ended.Ended.{Ended}
use Rattle.mn_perform.specs.declared.ended.Ended.TheVariants as how
use Rattle.mn_perform.specs.declared.ended.Fault.{Fault}
use Rattle.mn_perform.specs.declared.ended.Fault.TheVariants as fault
use Rattle.mn_perform.specs.Running.{is_stopped}
use Rattle.mn_ledger.specs.Lawful.{IsLawfulJournal}
use Rattle.mn_ledger.specs.Verdicts.{injections}
use Rattle.mn_course_laws.specs.Course.{Past}
use Rattle.mn_join_laws.specs.declared.leg.Which.{Which}
use Rattle.mn_join_laws.specs.Pairing.{Pairing, Both, side}
use Rattle.mn_join.specs.Pairs.{PairNow, PairStands, side_of}
use Rattle.mn_join_run.specs.Course.{JoinRun}
use Rattle.mn_join_run.specs.Report.{refused_texts, report, exits_file}
use Rattle.mn_join_run.specs.Outside.{Outside, outside, Start, Stands, IsCut, Holding, Beginning}
use Rattle.mn_join_run.specs.Playing.{Went}
use Rattle.mn_join_run.specs.Ending.{last_text, IsEnded, HasEnded, outcome_by, AreLawfulIfDone, the_files, BegunAtRead, UntoldAtRead, RunEnds}
use Rattle.mn_join_run.specs.Promise.{IsLawfulSide}
use Rattle.mn_join_run.specs.declared.desk.Desk.{Desk}
use Rattle.mn_join_run.proofs.Standing.{cut_here}

-- 1. Parts

-- the report begins with the refused lines
pub report_begins : (pairing : Pairing) (run : JoinRun) (before : List ℕ) (written : Option (List ℕ)) → PartPut (refused_texts run) before written →
    PartPut (report pairing run) before written
report_begins pairing run before written p =
    let rest : List ℕ = last_text pairing run in
    (p.0, (p.1.0 ++ rest, sym (append_assoc p.0 p.1.0 rest) ∙ ap (λ l. l ++ rest) p.1.1), p.2)

-- 2. A run that was cut off among its lines

-- of a call that wasn't done nothing is sent
pub not_done : (pairing : Pairing) (run : JoinRun) (why : Fault) → AreLawfulIfDone pairing run (outcome_by (Err why))
not_done pairing run fault.Read = tt
not_done pairing run fault.Write = tt
not_done pairing run fault.NoMemory = tt

module _ (pairing : Pairing) (start : Start) (run : JoinRun) (now : Outside) (cut : IsCut start (refused_texts run) (exits_file run.exits) now)
    (framed : Framed start.names start.base now.files) where
  part : (m : Files) → start.base ≡ Some m → PartWritten (the_files start run) m now.files
  part m is =
      part_written start.names (λ _. exits_file run.exits) m now.files (subst (λ b. Framed start.names b now.files) is framed) (cut.file m is)

  begun : (m : Files) → start.base ≡ Some m → AllBegun (the_files start run) m now.files
  begun m is =
      all_begun start.names (λ _. exits_file run.exits) m now.files (subst (λ b. Framed start.names b now.files) is framed) (cut.file m is)

  at_read : (why : Fault) (m : Files) → start.base ≡ Some m → BegunAtRead (the_files start run) m now.files (Err why)
  at_read fault.Read m is = begun m is
  at_read fault.Write m is = tt
  at_read fault.NoMemory m is = tt

  untold : (why : Fault) (before : List ℕ) → start.before ≡ Some before → UntoldAtRead (refused_texts run) before now.written (Err why)
  untold fault.Read before is = cut.text before is
  untold fault.Write before is = tt
  untold fault.NoMemory before is = tt

  pub cut_ends : (why : Fault) → RunEnds pairing start run now.files now.written (Err why)
  cut_ends why = record {
    ended = tt;
    files = λ m is. part m is;
    text = λ before is. report_begins pairing run before now.written (cut.text before is);
    late = λ m is before begun. inr (cut.text before begun);
    begun = at_read why;
    untold = untold why;
    lawful = not_done pairing run why;
  }

-- 3. A run whose lines ended

-- it is no fault of a read
abbrev pub IsNoRead : Fault → Type 0
IsNoRead fault.Read = ⊥
IsNoRead other = ⊤

pub never_begun : (files : List (List ℕ × List ℕ)) (m : Files) (after : Option Files) (why : Fault) → IsNoRead why → BegunAtRead files m after (Err why)
never_begun files m after fault.Read unread = absurd unread
never_begun files m after fault.Write unread = tt
never_begun files m after fault.NoMemory unread = tt

pub never_untold : (text before : List ℕ) (written : Option (List ℕ)) (why : Fault) → IsNoRead why → UntoldAtRead text before written (Err why)
never_untold text before written fault.Read unread = absurd unread
never_untold text before written fault.Write unread = tt
never_untold text before written fault.NoMemory unread = tt

-- how it went tells what stands
pub stood : (pairing : Pairing) (start : Start) (run : JoinRun) (pair : PairNow) (desk : Desk) (now : Outside) (ended : Ended) →
    Went pairing start run pair desk now (Ok ended) → Stands start (refused_texts run) (exits_file run.exits) now
stood pairing start run pair desk now how.All went = went.outside
stood pairing start run pair desk now how.TooManySteps went = went.1

pub has_ended : (pairing : Pairing) (start : Start) (run : JoinRun) (pair : PairNow) (desk : Desk) (now : Outside) (ended : Ended) →
    Went pairing start run pair desk now (Ok ended) → HasEnded pairing run ended pair desk
has_ended pairing start run pair desk now how.All went = (went.running, went.pair_stands, went.sendings)
has_ended pairing start run pair desk now how.TooManySteps went = went.0

pub ends_as : (pairing : Pairing) (start : Start) (run : JoinRun) (pair : PairNow) (desk : Desk) (now : Outside) (ended : Ended) →
    Went pairing start run pair desk now (Ok ended) → run.is_stopped ≡ is_stopped ended
ends_as pairing start run pair desk now how.All went = went.running
ends_as pairing start run pair desk now how.TooManySteps went = went.0

pub is_ended : (pairing : Pairing) (start : Start) (run : JoinRun) (pair : PairNow) (desk : Desk) (now : Outside) (ended : Ended) →
    Went pairing start run pair desk now (Ok ended) → IsEnded ended pair
is_ended pairing start run pair desk now how.All went = record { pairing = pairing; both = run.both; become = went.pair_stands }
is_ended pairing start run pair desk now how.TooManySteps went = tt

-- a network that stands for its ledger has a lawful journal
lawful_sides : (pairing : Pairing) (pair : PairNow) (both : Both) → PairStands pairing pair both → (which : Which) → IsLawfulSide pairing both which
lawful_sides pairing pair both stands which =
    let now = stands.sides which in
    let entries = ap (λ (p : Past). p.entries) now.past in
    record {
      journal = subst (λ t. IsLawfulJournal t (side both which).past.entries (side both which).inputs) now.topology
          (subst (λ es. IsLawfulJournal (side_of pair which).net.topology es (side both which).inputs) entries now.stands.stands.lawful);
      each = now.stands.stands.each ∙ ap injections entries;
      bytes = now.bytes;
    }

pub ended_lawful : (pairing : Pairing) (start : Start) (run : JoinRun) (pair : PairNow) (desk : Desk) (now : Outside) (ended : Ended) →
    Went pairing start run pair desk now (Ok ended) → AreLawfulIfDone pairing run (outcome_by (Ok ended))
ended_lawful pairing start run pair desk now how.All went = lawful_sides pairing pair run.both went.pair_stands
ended_lawful pairing start run pair desk now how.TooManySteps went = tt

module _ (pairing : Pairing) (start : Start) (run : JoinRun) (waits : List ℕ) (written : Option (List ℕ)) (held : List (List ℕ)) (files after : Option Files)
    (stands : Stands start (refused_texts run) (exits_file run.exits) (outside waits written held files)) where
  -- the file couldn't be ended: nothing more was put
  pub file_fails : (why : Fault) → IsNoRead why → Framed start.names start.base after →
      ((bytes : List ℕ) → Holding start.names bytes held files → Beginning start.names bytes after) → RunEnds pairing start run after written (Err why)
  file_fails why unread framed part =
      cut_ends pairing start run (outside waits written held after)
      (record {
        text = (cut_here start (refused_texts run) (exits_file run.exits) (outside waits written held files) stands).text;
        file = λ m is. part (exits_file run.exits) (stands.file m is);
      })
      framed why

  -- the file is whole, and the report was cut off
  pub text_fails : (why : Fault) → IsNoRead why → (now : Option (List ℕ)) →
      ((m : Files) → start.base ≡ Some m → after ≡ Some (laid (the_files start run) m)) →
      ((before : List ℕ) → start.before ≡ Some before → PartPut (report pairing run) before now) → RunEnds pairing start run after now (Err why)
  text_fails why unread now whole put = record {
    ended = tt;
    files = λ m is. whole_part (the_files start run) m after (whole m is);
    text = put;
    late = λ m is before begun. inl (whole m is);
    begun = λ m is. never_begun (the_files start run) m after why unread;
    untold = λ before is. never_untold (refused_texts run) before now why unread;
    lawful = not_done pairing run why;
  }

  -- the file is whole, and so is the report
  pub all_ends : (ended : Ended) → run.is_stopped ≡ is_stopped ended → AreLawfulIfDone pairing run (outcome_by (Ok ended)) → (now : Option (List ℕ)) →
      ((m : Files) → start.base ≡ Some m → after ≡ Some (laid (the_files start run) m)) →
      ((before : List ℕ) → start.before ≡ Some before → now ≡ Some (before ++ report pairing run)) → RunEnds pairing start run after now (Ok ended)
  all_ends ended is lawful now whole put = record {
    ended = is;
    files = whole;
    text = put;
    late = λ m base before begun. inl (whole m base);
    begun = λ m base. tt;
    untold = λ before begun. tt;
    lawful = lawful;
  }
