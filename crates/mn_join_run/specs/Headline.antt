-- What a script of two joined networks has reported and left where all was done.
use Rattle.std.specs.Prelude.{◌≡◌, ◌<◌, ℕ, List, ◌++◌, length, slice_index_or, Option, Some, option_map, Ok, ⊤}
use Rattle.mn_edge.specs.Files.{Files, file}
use Rattle.mn_edge.specs.Written.{laid}
use Rattle.mn_topo.specs.Network.{Network}
use Rattle.mn_topo_toml.specs.Topology.{topology_of}
use Rattle.mn_pcap.specs.Reading as pcap
use Rattle.mn_script.specs.Reading.{lines_of}
use Rattle.mn_join_script.specs.Joints.{SitePair, joints_of}
use Rattle.mn_answer.specs.declared.outcome.Outcome.{Outcome}
use Rattle.mn_answer.specs.declared.outcome.Outcome.TheVariants.{Done}
use Rattle.mn_join_laws.specs.declared.leg.Which.{Which}
use Rattle.mn_join_laws.specs.Pairing.{travel}
use Rattle.mn_join.specs.Pairs.{pairing_of}
use Rattle.mn_join_script.specs.declared.line.JoinLine.{JoinLine}
use Rattle.mn_join_script.specs.Language.{join_says}
use Rattle.mn_join_run.specs.Course.{JoinRun, run_of}
use Rattle.mn_join_run.specs.Report.{no_line, report}
use Rattle.mn_join_run.specs.Answer.{exits_files}
use Rattle.mn_join_run.specs.Leaving.{ComeOut}
use Rattle.mn_join_run.specs.Promise.{AccountsForLegs, IsAnsweredFor}

-- the two topologies, their joints, the script's lines and the capture's packets are those of the files; the run is the script's over
-- both networks; each network keeps what a run of it alone promises; each packet is answered for: its legs are its injections, each in the
-- network and at the site to which the leg before was handed on, with what that delivered, and what is reported as delivered has crossed the
-- networks of all its legs, and left at a site that isn't joined; what came out of each network are its deliveries at such sites, each once, in the
-- order of its steps; what was put is the report of the run, and the file is what came out
pub record TellsJoin (first_name second_name joints_name script_name capture_name folder : List ℕ) (files : Files) (before : List ℕ)
    (after : Option Files) (written : Option (List ℕ)) : Type 0 where
  pub first : Network
  pub second : Network
  pub joints : List SitePair
  pub lines : List JoinLine
  pub packets : List (List ℕ)
  pub run : JoinRun
  pub first_read : option_map topology_of (file files first_name) ≡ Some (Ok first)
  pub second_read : option_map topology_of (file files second_name) ≡ Some (Ok second)
  pub joints_read : option_map (joints_of first second) (file files joints_name) ≡ Some (Ok joints)
  pub lines_read : option_map (lines_of (join_says first second) 1) (file files script_name) ≡ Some (Ok lines)
  pub capture_read : option_map pcap.packets_of (file files capture_name) ≡ Some (Ok packets)
  pub played : run ≡ run_of (pairing_of first second joints) packets lines
  pub each : (which : Which) → AccountsForLegs (pairing_of first second joints) run.both which
  pub answered : (k : ℕ) → k < length run.both.travels →
      IsAnsweredFor (pairing_of first second joints) packets run.both (slice_index_or run.sendings k no_line) (travel run.both k)
  pub out : ComeOut (pairing_of first second joints) run.both run.exits
  pub told : written ≡ Some (before ++ report (pairing_of first second joints) run)
  pub written_files : after ≡ Some (laid (exits_files folder run) files)

-- where all was done
abbrev pub IsJoinTold : List ℕ → List ℕ → List ℕ → List ℕ → List ℕ → List ℕ → Files → List ℕ → Option Files → Option (List ℕ) → Outcome → Type 0
IsJoinTold first second joints script capture folder files before after written Done =
    TellsJoin first second joints script capture folder files before after written
IsJoinTold first second joints script capture folder files before after written outcome = ⊤
