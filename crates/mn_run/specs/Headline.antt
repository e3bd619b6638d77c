-- The promise of a call where all was done, in the words of a customer.
use Rattle.std.specs.Option.{ForSome}
use Rattle.std.specs.Prelude.{◌≡◌, ℕ, false, List, ◌∷◌, ◌++◌, Option, Some, None, option_map, Ok, ⊤}
use Rattle.mn_edge.specs.Files.{Files, file}
use Rattle.mn_edge.specs.Written.{laid}
use Rattle.mn_pcap.specs.Reading as pcap
use Rattle.mn_script.specs.declared.command.Command.TheVariants.{Drain}
use Rattle.mn_script.specs.declared.command.Line.{Line}
use Rattle.mn_script.specs.Script.{script_of}
use Rattle.mn_topo.specs.Network.{Network}
use Rattle.mn_topo_toml.specs.Topology.{topology_of}
use Rattle.mn_ledger_laws.specs.Accounts.{Accounts}
use Rattle.mn_arrival_laws.specs.Arrival.{ItArrives, ArrivesWhereItCan}
use Rattle.mn_course_laws.specs.Course.{inputs_of, played}
use Rattle.mn_course_laws.specs.Drains.{DrainsAll}
use Rattle.mn_course_laws.specs.Expansion.{Expansion, expanded}
use Rattle.mn_course_laws.specs.Lawful.{IsLawfulRun}
use Rattle.mn_output_laws.specs.Contents.{output}
use Rattle.mn_output_laws.specs.Report.{totals_of, report}
use Rattle.mn_output_laws.specs.Sendings.{AreSentBy}
use Rattle.mn_ledger.specs.Ledger.{packets_of}
use Rattle.mn_lines.specs.Lines.{total_line}
use Rattle.mn_gen.specs.Topology.{topology_text}
use Rattle.mn_gen.specs.Script.{script_text}
use Rattle.mn_gen.specs.Capture.{capture_bytes}
use Rattle.mn_answer.specs.declared.outcome.Outcome.{Outcome}
use Rattle.mn_answer.specs.declared.outcome.Outcome.TheVariants.{Done}
use Rattle.mn_answer.specs.Endings.{Answers}
use Rattle.mn_flood_run.specs.Headline.{TellsFlood}
use Rattle.mn_reflect_run.specs.Headline.{TellsReflect}
use Rattle.mn_join_run.specs.Headline.{TellsJoin}
use Rattle.mn_reach_run.specs.Headline.{TellsReach}
use Rattle.mn_run.specs.declared.words.Job.{Job}
use Rattle.mn_run.specs.declared.words.Job.TheVariants.{Run, Check, Flood, Reflect, Join, Reach, Generate, Nothing}
use Rattle.mn_run.specs.Words.{word, failures_name, job_of}
use Rattle.mn_run.specs.Moments.{AllGiveLabels, FramesAreYoung}
use Rattle.mn_run.specs.Answer.{check_line, generated_line, job_answer}

-- A line `drain` without a number, to which the script came behind these lines, does the steps of a drain, no more than its bound; where
-- the journal had room for as many, no notice and no message flies at its end, and the network is settled there, if LDP is switched on
-- for each link that is up and BGP between all edges.
abbrev pub DrainsEach : Network → List (List ℕ) → List Line → Type 0
DrainsEach topology packets script =
    (before after : List Line) (line : Line) → script ≡ before ++ line ∷ after → line.command ≡ Drain None →
    (expanded topology packets before).is_stopped ≡ false →
    DrainsAll topology (expanded topology packets before).past (played topology packets (expanded topology packets before).past line.command)

-- the script makes a journal of lawful steps, and every packet that it sends is accounted for: it reached only the site of the
-- best route that its VRF held as it was sent, unchanged but for TTL and checksum, or it fell to the first rule that applied, or
-- it is on its way; in a settled, connected network it arrives; each drain is bounded, and settles the network; at each moment no label
-- means two things or means another FEC before it is free, and no frame in flight is older than its link's life; what was put is the
-- report of that journal, the files are its own, and no other file changed
pub record KeepsItsPromise (topology_name script_name capture_name folder : List ℕ) (files : Files) (before : List ℕ) (after : Option Files)
    (written : Option (List ℕ)) : Type 0 where
  pub topology : Network
  pub script : List Line
  pub packets : List (List ℕ)
  pub run : Expansion
  pub topology_read : option_map topology_of (file files topology_name) ≡ Some (Ok topology)
  pub script_read : option_map (script_of topology) (file files script_name) ≡ Some (Ok script)
  pub capture_read : option_map pcap.packets_of (file files capture_name) ≡ Some (Ok packets)
  pub played : run ≡ expanded topology packets script
  pub lawful : IsLawfulRun topology packets run
  pub told : AreSentBy script run
  pub accounts : Accounts topology run.past.entries (inputs_of packets run.past.entries)
  pub arrives : ItArrives topology run.past.entries (inputs_of packets run.past.entries)
  pub arrives_where_it_can : ArrivesWhereItCan topology run.past.entries (inputs_of packets run.past.entries)
  pub drained : DrainsEach topology packets script
  pub labelled : AllGiveLabels topology run.past.entries
  pub young : FramesAreYoung topology run.past (inputs_of packets run.past.entries)
  pub lines : written ≡ Some (before ++ report topology packets run)
  pub written_files : after ≡ Some (laid (output folder topology packets run.past.entries) files)

-- the topology that was checked is lawful, and what was put says how much it has; no file changed
pub record TellsTopology (words : List (List ℕ)) (files : Files) (before : List ℕ) (after : Option Files) (written : Option (List ℕ)) : Type 0 where
  pub topology : Network
  pub topology_read : option_map topology_of (file files (word words 1)) ≡ Some (Ok topology)
  pub lines : written ≡ Some (before ++ check_line topology)
  pub same : after ≡ Some files

-- the inputs that the generator makes of the number are accepted; their journal is lawful and accounts for every packet that the
-- script sends, and at each moment its labels and frames are as those of a run; what was put is the number, and what all came to
pub record TellsTotal (number : ℕ) (before : List ℕ) (written : Option (List ℕ)) : Type 0 where
  pub topology : Network
  pub script : List Line
  pub packets : List (List ℕ)
  pub run : Expansion
  pub topology_read : topology_of (topology_text number) ≡ Ok topology
  pub script_read : script_of topology (script_text number) ≡ Ok script
  pub capture_read : pcap.packets_of (capture_bytes number) ≡ Ok packets
  pub played : run ≡ expanded topology packets script
  pub lawful : IsLawfulRun topology packets run
  pub told : AreSentBy script run
  pub accounts : Accounts topology run.past.entries (inputs_of packets run.past.entries)
  pub arrives : ItArrives topology run.past.entries (inputs_of packets run.past.entries)
  pub arrives_where_it_can : ArrivesWhereItCan topology run.past.entries (inputs_of packets run.past.entries)
  pub drained : DrainsEach topology packets script
  pub labelled : AllGiveLabels topology run.past.entries
  pub young : FramesAreYoung topology run.past (inputs_of packets run.past.entries)
  pub lines : written ≡ Some
      (before ++ (generated_line number ++ total_line (totals_of run (packets_of topology run.past.entries (inputs_of packets run.past.entries)).verdicts)))

abbrev pub IsGenerated : ℕ → List ℕ → Option (List ℕ) → Outcome → Type 0
IsGenerated number before written Done = TellsTotal number before written
IsGenerated number before written outcome = ⊤

-- what each job has done: a run keeps its promise, a check tells the topology, a flood and reflected routes tell their course and change
-- no file, two joined networks tell theirs and leave what came out, failures are told with the fates of their pairs and change no file, and
-- the generator's run tells the total and changes no file
abbrev pub Keeps : Job → List (List ℕ) → Files → List ℕ → Option Files → Option (List ℕ) → Type 0
Keeps Run words files before after written = KeepsItsPromise (word words 1) (word words 2) (word words 3) (word words 4) files before after written
Keeps Check words files before after written = TellsTopology words files before after written
Keeps Flood words files before after written = TellsFlood (word words 1) (word words 2) files before written × (after ≡ Some files)
Keeps Reflect words files before after written = TellsReflect (word words 1) (word words 2) files before written × (after ≡ Some files)
Keeps Join words files before after written =
    TellsJoin (word words 1) (word words 2) (word words 3) (word words 4) (word words 5) (word words 6) files before after written
Keeps Reach words files before after written = TellsReach (word words 1) (failures_name words) files before written × (after ≡ Some files)
Keeps (Generate number) words files before after written = TellsTotal number before written × (after ≡ Some files)
Keeps Nothing words files before after written = ⊤

-- where all was done, the job of the words was
abbrev pub IsKept : Job → List (List ℕ) → Files → List ℕ → Option Files → Option (List ℕ) → Outcome → Type 0
IsKept job words files before after written Done = Keeps job words files before after written
IsKept job words files before after written outcome = ⊤

abbrev pub HeadlineIs : List (List ℕ) → Files → List ℕ → Option Files → Option (List ℕ) → Outcome → Type 0
HeadlineIs words files before after written outcome = IsKept (job_of words) words files before after written outcome

-- how a call ended for a job, where shelf and sink tell what they hold
pub record Ends (job : Job) (words : List (List ℕ)) (files after : Option Files) (before written : Option (List ℕ)) (outcome : Outcome) : Type 0 where
  pub answers : ForSome files (λ m. Answers (job_answer job words m) m after before written outcome)
  pub kept : ForSome files (λ m. ForSome before (λ text. IsKept job words m text after written outcome))
  pub told : (number : ℕ) → job ≡ Generate number → ForSome before (λ text. IsGenerated number text written outcome)
