-- The status of the program.
use Rattle.std.specs.Prelude.{ℕ}
use Rattle.mn_answer.specs.declared.outcome.Outcome.{Outcome}
use Rattle.mn_answer.specs.declared.outcome.Outcome.TheVariants.{Done, Usage, ReadFault, WriteFault, NoMemory, BadTopology, BadScript, BadCapture, TooLarge}
use Rattle.mn_answer.specs.declared.outcome.Outcome.TheVariants.{BadJoints, BadSecond}

-- each outcome has a status of its own
abbrev pub status_of : Outcome → ℕ
status_of Done = 0
status_of Usage = 2
status_of (BadTopology rule place) = 3
status_of (BadScript rule line) = 4
status_of (BadCapture rule place) = 5
status_of ReadFault = 6
status_of WriteFault = 7
status_of NoMemory = 8
status_of (TooLarge which limit) = 9
status_of (BadJoints rule line) = 11
status_of (BadSecond rule place) = 12
