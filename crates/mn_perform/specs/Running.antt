-- A run part way: network, files and report are what the lines so far make them.
use Rattle.std.specs.Prelude.{◌≡◌, ℕ, ◌+◌, Bool, true, false, List, [], ◌++◌, map, drop, Option, Some, Result, Ok, Err, codes}
use Rattle.std.specs.List.{flat_map}
use Rattle.mn_edge.specs.Files.{Files}
use Rattle.mn_edge.specs.Kept.{HoldsOn, BeginsOn}
use Rattle.mn_topo.specs.Network.{Network}
use Rattle.mn_script.specs.declared.command.Line.{Line}
use Rattle.mn_course_laws.specs.Course.{inputs_of}
use Rattle.mn_course_laws.specs.Expansion.{SentLine, Expansion, sending_by, expanded_from, expanded}
use Rattle.mn_lines.specs.Lines.{cause_text, refused_line}
use Rattle.mn_lines.specs.Putting.{PutOn, PartPut, Puts}
use Rattle.mn_output_laws.specs.Report.{note_text, count, is_refusal}
use Rattle.mn_net_laws.specs.Now.{NetNow, StandsFor}
use Rattle.mn_sched.specs.declared.line.Played.{Played}
use Rattle.mn_sched.specs.declared.line.Played.TheVariants.{All, Refused, NoRecord}
use Rattle.mn_perform.specs.Recorded.{BooksNow, contents_at}
use Rattle.mn_report.specs.Shown.{sending_of}
use Rattle.mn_perform.specs.declared.desk.Desk.{Desk}
use Rattle.mn_perform.specs.declared.ended.Ended.{Ended}
use Rattle.mn_perform.specs.declared.ended.Ended.TheVariants as ended
use Rattle.mn_perform.specs.declared.ended.Fault.{Fault}

-- 1. A line

-- what a line that was played leaves in the report
abbrev pub line_text : Network → ℕ → Played → List ℕ
line_text topology number All = []
line_text topology number (Refused cause) = refused_line number (cause_text topology.site_names cause)
line_text topology number NoRecord = refused_line number (codes "NoRecord")

abbrev pub refusals_by : Played → ℕ
refusals_by All = 0
refusals_by other = 1

abbrev pub sendings_by : Line → Played → List SentLine
sendings_by line All = sending_by line.number line.command
sendings_by line other = []

-- a line that was played is noted
pub record Notes (topology : Network) (line : Line) (played : Played) (old new : Desk) (written now : Option (List ℕ)) : Type 0 where
  pub sendings : map sending_of new.sendings.items ≡ map sending_of old.sendings.items ++ sendings_by line played
  pub refused : new.refused ≡ old.refused + refusals_by played
  pub text : Puts (line_text topology line.number played) old.page new.page written now

-- 2. The lines so far

abbrev pub notes_text : Network → List (List ℕ) → Expansion → List ℕ
notes_text topology all run = flat_map (note_text topology all) run.notes

-- the net stands for its journal with these packets of the capture, and the files hold it
pub record Stands (all : List (List ℕ)) (net : NetNow) (books : BooksNow) (files : Option Files) : Type 0 where
  pub stands : StandsFor net (inputs_of all net.journal)
  pub holds : HoldsOn books.names (contents_at net.topology all net.journal) books.held files

-- with these packets of the capture, and this put before the run began: net, files and desk are those of the lines so far
pub record Keeps (topology : Network) (all : List (List ℕ)) (begun : Option (List ℕ)) (run : Expansion)
    (net : NetNow) (books : BooksNow) (desk : Desk) (files : Option Files) (written : Option (List ℕ)) : Type 0 where
  pub topology_is : net.topology ≡ topology
  pub journal : net.journal ≡ run.past.entries
  pub clock : run.is_stopped ≡ false → net.tick ≡ run.past.clock
  pub stands : StandsFor net (inputs_of all net.journal)
  pub holds : HoldsOn books.names (contents_at topology all net.journal) books.held files
  pub sendings : map sending_of desk.sendings.items ≡ run.sendings
  pub refused : desk.refused ≡ count is_refusal run.notes
  pub text : (before : List ℕ) → begun ≡ Some before → PutOn before (notes_text topology all run) desk.page written

-- the run was cut off: files and report are first parts of its own
pub record Breaks (topology : Network) (all : List (List ℕ)) (begun : Option (List ℕ)) (run : Expansion)
    (names : List (List ℕ)) (files : Option Files) (written : Option (List ℕ)) : Type 0 where
  pub begins : BeginsOn names (contents_at topology all run.past.entries) files
  pub text : (before : List ℕ) → begun ≡ Some before → PartPut (notes_text topology all run) before written

abbrev pub is_stopped : Ended → Bool
is_stopped ended.All = false
is_stopped ended.TooManySteps = true

abbrev pub Went : Network → List (List ℕ) → Option (List ℕ) → Expansion → NetNow → BooksNow → Desk → Option Files → Option (List ℕ) → Result Ended Fault →
    Type 0
Went topology all begun run net books desk files written (Ok how) =
    Keeps topology all begun run net books desk files written × (run.is_stopped ≡ is_stopped how)
Went topology all begun run net books desk files written (Err fault) = Breaks topology all begun run books.names files written

-- 3. At a line of a script

pub record IsAt (topology : Network) (all : List (List ℕ)) (begun : Option (List ℕ)) (lines : List Line) (i : ℕ)
    (net : NetNow) (books : BooksNow) (desk : Desk) (files : Option Files) (written : Option (List ℕ)) : Type 0 where
  pub run : Expansion
  pub keeps : Keeps topology all begun run net books desk files written
  pub running : run.is_stopped ≡ false
  pub rest : expanded_from topology all run (drop i lines) ≡ expanded topology all lines
