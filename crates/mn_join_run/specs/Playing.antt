-- How the lines of a script go on two networks.
use Rattle.std.specs.Prelude.{◌≡◌, ℕ, true, false, List, map, drop, Option, None, Result, Ok, Err}
use Rattle.std.specs.Option.{ForSome}
use Rattle.mn_edge.specs.Files.{Files}
use Rattle.mn_capture.specs.Packets.{CaptureView}
use Rattle.mn_perform.specs.Recorded.{told_packets}
use Rattle.mn_script.specs.declared.command.Command.{Command}
use Rattle.mn_perform.specs.Shown.{sending_of}
use Rattle.mn_perform.specs.declared.ended.Ended.{Ended}
use Rattle.mn_perform.specs.declared.ended.Ended.TheVariants as ended
use Rattle.mn_perform.specs.declared.ended.Fault.{Fault}
use Rattle.mn_course_laws.specs.declared.coming.Ending.{Ending}
use Rattle.mn_course_laws.specs.declared.coming.Ending.TheVariants as ending
use Rattle.mn_join_laws.specs.Pairing.{Pairing}
use Rattle.mn_join.specs.declared.played.Played.{Played}
use Rattle.mn_join.specs.declared.played.Played.TheVariants as played
use Rattle.mn_join.specs.Pairs.{PairNow, PairStands}
use Rattle.mn_join_script.specs.declared.line.JoinLine.{JoinLine}
use Rattle.mn_join_run.specs.Course.{JoinRun, packet_for, with_packet, run_from, run_of}
use Rattle.mn_join_run.specs.Report.{refused_texts, exits_file}
use Rattle.mn_join_run.specs.Outside.{Outside, outside, Start, Stands, IsCut}
use Rattle.mn_join_run.specs.declared.desk.Desk.{Desk}
use Rattle.mn_join_run.specs.declared.lines.Run.{Run}

-- what stands outside of a run part way
abbrev pub outside_of : Run → Option (List ℕ) → Option Files → Outside
outside_of now written files = outside now.desk.page written now.file.held files

-- the packet that a line names is that of the capture, where its file is told and none of those that are written
abbrev pub IsPacket : Option Files → List (List ℕ) → CaptureView → Command → Option (List ℕ) → Type 0
IsPacket files names capture command packet = ForSome (told_packets files names capture) (λ all. packet ≡ packet_for all command)

-- how a line ended
abbrev pub ending_of : Played → Ending
ending_of played.All = ending.All
ending_of (played.Refused why) = ending.Refused why

-- a line was noted: what it sent, what was refused and what came out stand behind what stood before
abbrev pub IsNoted : {T : Type 0} → Start → JoinRun → Desk → Outside → Result T Fault → Type 0
IsNoted start later desk now (Ok x) =
    (map sending_of desk.sent.items ≡ later.sendings) × Stands start (refused_texts later) (exits_file later.exits) now
IsNoted start later desk now (Err fault) = IsCut start (refused_texts later) (exits_file later.exits) now

-- both networks are what the lines so far made of them, and so is what stands outside
pub record Keeps (pairing : Pairing) (start : Start) (run : JoinRun) (pair : PairNow) (desk : Desk) (now : Outside) : Type 0 where
  pub pair_stands : PairStands pairing pair run.both
  pub goes : pair.stopped ≡ None
  pub running : run.is_stopped ≡ false
  pub sendings : map sending_of desk.sent.items ≡ run.sendings
  pub outside : Stands start (refused_texts run) (exits_file run.exits) now

-- after some lines: all were played, or one met a full journal, or a fault cut them off
abbrev pub Went : Pairing → Start → JoinRun → PairNow → Desk → Outside → Result Ended Fault → Type 0
Went pairing start run pair desk now (Ok ended.All) = Keeps pairing start run pair desk now
Went pairing start run pair desk now (Ok ended.TooManySteps) =
    (run.is_stopped ≡ true) × Stands start (refused_texts run) (exits_file run.exits) now
Went pairing start run pair desk now (Err fault) = IsCut start (refused_texts run) (exits_file run.exits) now

-- a line was played with a packet, which is that of the capture where that is told
pub record LineWent (pairing : Pairing) (start : Start) (run : JoinRun) (line : JoinLine) (files : Option Files) (capture : CaptureView)
    (pair : PairNow) (desk : Desk) (now : Outside) (result : Result Ended Fault) : Type 0 where
  pub packet : Option (List ℕ)
  pub is_packet : IsPacket files start.names capture line.command packet
  pub went : Went pairing start (with_packet pairing run line packet) pair desk now result

-- at a line of a script: a run goes on there, and is the script's where the capture is told
pub record IsAt (pairing : Pairing) (start : Start) (files : Option Files) (capture : CaptureView) (lines : List JoinLine) (i : ℕ)
    (pair : PairNow) (desk : Desk) (now : Outside) : Type 0 where
  pub run : JoinRun
  pub keeps : Keeps pairing start run pair desk now
  pub rest : ForSome (told_packets files start.names capture) (λ all. run_from pairing all run (drop i lines) ≡ run_of pairing all lines)

-- all lines were played: a run has come of them, which is the script's where the capture is told
pub record AllWent (pairing : Pairing) (start : Start) (files : Option Files) (capture : CaptureView) (lines : List JoinLine)
    (pair : PairNow) (desk : Desk) (now : Outside) (result : Result Ended Fault) : Type 0 where
  pub run : JoinRun
  pub went : Went pairing start run pair desk now result
  pub whole : ForSome (told_packets files start.names capture) (λ all. run ≡ run_of pairing all lines)
