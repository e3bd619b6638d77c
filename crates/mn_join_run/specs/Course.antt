-- What a script of two joined networks does: its lines one after another, with what is reported of each.
use Rattle.std.specs.Prelude.{ℕ, Bool, true, false, List, [], ◌∷◌, ◌++◌, Option, Some, None, codes}
use Rattle.mn_topo.specs.declared.steps.Step.TheVariants.{Inject}
use Rattle.mn_script.specs.declared.command.Command.{Command}
use Rattle.mn_script.specs.declared.command.Command.TheVariants.{Do, Damage}
use Rattle.mn_entry.specs.Damages.{number_of}
use Rattle.mn_course_laws.specs.declared.coming.Ending.{Ending}
use Rattle.mn_course_laws.specs.declared.coming.Ending.TheVariants as ending
use Rattle.mn_course_laws.specs.Course.{record_of}
use Rattle.mn_course_laws.specs.Expansion.{SentLine, sending_by}
use Rattle.mn_lines.specs.Lines.{cause_text}
use Rattle.mn_join_laws.specs.Pairing.{Pairing, network, Both, at_first}
use Rattle.mn_join_laws.specs.Course.{Exit, PairCourse, played}
use Rattle.mn_join_script.specs.declared.line.JoinLine.{JoinLine}

-- a line that was refused, and the cause as it is reported
pub record RefusedLine : Type 0 where
  pub line : ℕ
  pub cause : List ℕ

-- what has happened in both networks, the lines that were refused, those that sent a packet, and what came out, in order
pub record JoinRun : Type 0 where
  pub both : Both
  pub refused : List RefusedLine
  pub sendings : List SentLine
  pub exits : List Exit
  pub is_stopped : Bool

-- the packet that a line names, to send it or in place of a message; none where the capture hasn't its record. A line that names none asks
-- for no bytes
abbrev pub packet_for : List (List ℕ) → Command → Option (List ℕ)
packet_for capture (Do (Inject s number)) = record_of capture number
packet_for capture (Damage hurt) = record_of capture (number_of hurt)
packet_for capture command = Some []

abbrev pub with_refusal : JoinRun → ℕ → List ℕ → JoinRun
with_refusal before number cause = record before { refused = before.refused ++ record { line = number; cause = cause } ∷ [] }

-- what has happened and what came out by a line's course
abbrev pub goes_on : JoinRun → PairCourse → JoinRun
goes_on before course = record before { both = course.both; exits = before.exits ++ course.exits }

-- a line that took its course leaves its sending, and one that was refused its cause; the script goes on after either
abbrev pub after_course : Pairing → JoinRun → JoinLine → PairCourse → Ending → JoinRun
after_course pairing before line course ending.All =
    record (goes_on before course) { sendings = before.sendings ++ sending_by line.number line.command }
after_course pairing before line course (ending.Refused cause) =
    with_refusal (goes_on before course) line.number (cause_text (network pairing line.which).site_names cause)
after_course pairing before line course ending.NoRecord = with_refusal (goes_on before course) line.number (codes "NoRecord")
after_course pairing before line course ending.TooManySteps = record (goes_on before course) { is_stopped = true }

-- a line with the packet that it names; that the capture hasn't the record comes before every refusal
abbrev pub with_packet : Pairing → JoinRun → JoinLine → Option (List ℕ) → JoinRun
with_packet pairing before line None = with_refusal before line.number (codes "NoRecord")
with_packet pairing before line (Some bytes) =
    let course : PairCourse = played pairing line.which before.both line.command bytes in
    after_course pairing before line course course.ending

abbrev pub with_line : Pairing → List (List ℕ) → JoinRun → JoinLine → JoinRun
with_line pairing capture before line = with_packet pairing before line (packet_for capture line.command)

-- nothing follows a line that a full journal stopped
abbrev pub unless_stopped : Bool → JoinRun → JoinRun → JoinRun
unless_stopped true now later = now
unless_stopped false now later = later

abbrev pub run_from : Pairing → List (List ℕ) → JoinRun → List JoinLine → JoinRun
run_from pairing capture now [] = now
run_from pairing capture now (line ∷ lines) =
    unless_stopped now.is_stopped now (run_from pairing capture (with_line pairing capture now line) lines)

abbrev pub at_start : JoinRun
at_start = record { both = at_first; refused = []; sendings = []; exits = []; is_stopped = false }

-- a script from its first line on
abbrev pub run_of : Pairing → List (List ℕ) → List JoinLine → JoinRun
run_of pairing capture lines = run_from pairing capture at_start lines
