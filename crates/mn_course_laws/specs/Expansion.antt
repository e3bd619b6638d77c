-- What a script does: its lines one after another, with what is reported of each.
use Rattle.std.specs.Prelude.{ℕ, Bool, true, false, List, [], ◌∷◌, ◌++◌}
use Rattle.mn_topo.specs.Network.{Network}
use Rattle.mn_topo.specs.declared.steps.Step.TheVariants.{Inject}
use Rattle.mn_script.specs.declared.command.Command.{Command}
use Rattle.mn_script.specs.declared.command.Command.TheVariants.{Do, Show}
use Rattle.mn_script.specs.declared.command.Show as show
use Rattle.mn_script.specs.declared.command.Line.{Line}
use Rattle.mn_ledger.specs.declared.refused.Refused as why
use Rattle.mn_base.specs.declared.numbers.SiteNo.{SiteNo}
use Rattle.mn_course_laws.specs.declared.coming.Ending.{Ending}
use Rattle.mn_course_laws.specs.declared.coming.Ending.TheVariants as ending
use Rattle.mn_course_laws.specs.Course.{Past, Course, played}

-- what is reported in the script's order: a refused line by its number and cause, a line whose record is missing, or a table as it
-- stands after what has happened
pub data Note : Type 0 where
  Refusal : (line : ℕ) → (cause : why.Refused) → Note
  Missing : (line : ℕ) → Note
  Table : (table : show.Show) → (past : Past) → Note

-- the line, site and record of an injection that was done
pub record SentLine : Type 0 where
  pub line : ℕ
  pub site : SiteNo
  pub number : ℕ

pub record Expansion : Type 0 where
  pub past : Past
  pub notes : List Note
  pub sendings : List SentLine
  pub is_stopped : Bool

abbrev pub sending_by : ℕ → Command → List SentLine
sending_by line (Do (Inject s number)) = record { line = line; site = s; number = number } ∷ []
sending_by line command = []

abbrev pub table_by : Past → Command → List Note
table_by past (Show table) = Table table past ∷ []
table_by past command = []

-- a line that took its course leaves its table or sending, and one that was refused its cause; the script goes on after either
abbrev pub after_line : Expansion → Line → Past → Ending → Expansion
after_line before line past ending.All = record before {
  past = past;
  notes = before.notes ++ table_by past line.command;
  sendings = before.sendings ++ sending_by line.number line.command;
}
after_line before line past (ending.Refused cause) = record before { past = past; notes = before.notes ++ Refusal line.number cause ∷ [] }
after_line before line past ending.NoRecord = record before { past = past; notes = before.notes ++ Missing line.number ∷ [] }
after_line before line past ending.TooManySteps = record before { past = past; is_stopped = true }

abbrev pub with_line : Network → List (List ℕ) → Expansion → Line → Expansion
with_line topology capture before line =
    let course : Course = played topology capture before.past line.command in
    after_line before line course.past course.ending

-- nothing follows a line that a full journal stopped
abbrev pub unless_stopped : Bool → Expansion → Expansion → Expansion
unless_stopped true now later = now
unless_stopped false now later = later

abbrev pub expanded_from : Network → List (List ℕ) → Expansion → List Line → Expansion
expanded_from topology capture now [] = now
expanded_from topology capture now (line ∷ lines) =
    unless_stopped now.is_stopped now (expanded_from topology capture (with_line topology capture now line) lines)

abbrev pub start_of : Past → Expansion
start_of past = record { past = past; notes = []; sendings = []; is_stopped = false }

-- the journal of a script, and what is reported of its lines
abbrev pub expanded : Network → List (List ℕ) → List Line → Expansion
expanded topology capture lines = expanded_from topology capture (start_of (record { clock = 0; entries = [] })) lines
