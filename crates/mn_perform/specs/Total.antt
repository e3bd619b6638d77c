-- A run that writes no file, and of whose report only the total is put.
use Rattle.std.specs.Prelude.{◌≡◌, ℕ, false, cond, List, [], ◌++◌, drop, Option, Some, Result, Ok, Err, codes}
use Rattle.mn_topo.specs.Network.{Network}
use Rattle.mn_script.specs.declared.command.Line.{Line}
use Rattle.mn_ledger.specs.Ledger.{packets_of}
use Rattle.mn_course_laws.specs.Course.{inputs_of}
use Rattle.mn_course_laws.specs.Expansion.{Expansion, expanded_from, expanded}
use Rattle.mn_lines.specs.Lines.{total_line}
use Rattle.mn_lines.specs.Putting.{PartPut}
use Rattle.mn_output_laws.specs.Report.{count, is_refusal, totals_of}
use Rattle.mn_net_laws.specs.Now.{NetNow, StandsFor}
use Rattle.mn_perform.specs.Running.{is_stopped}
use Rattle.mn_perform.specs.declared.ended.Ended.{Ended}
use Rattle.mn_perform.specs.declared.ended.Ended.TheVariants as ended
use Rattle.mn_perform.specs.declared.ended.Fault.{Fault}

-- the heading stands before the total alone
abbrev pub heading_of : Ended → List ℕ → List ℕ
heading_of ended.All heading = heading
heading_of ended.TooManySteps heading = []

-- a heading, and what all came to; or that the journal was full
abbrev pub total_text : List ℕ → Network → List (List ℕ) → Expansion → List ℕ
total_text heading topology capture run =
    cond run.is_stopped (codes "too large steps\n")
    (heading ++ total_line (totals_of run (packets_of topology run.past.entries (inputs_of capture run.past.entries)).verdicts))

-- what was put is this text; after a fault a first part of it
abbrev pub PutsWhole : {T : Type 0} → List ℕ → List ℕ → Option (List ℕ) → Result T Fault → Type 0
PutsWhole text before after (Ok x) = after ≡ Some (before ++ text)
PutsWhole text before after (Err fault) = PartPut text before after

-- with these packets of the capture: the net is that of the lines so far, of which so many were refused
pub record Plays (topology : Network) (all : List (List ℕ)) (run : Expansion) (net : NetNow) (refused : ℕ) : Type 0 where
  pub topology_is : net.topology ≡ topology
  pub journal : net.journal ≡ run.past.entries
  pub clock : run.is_stopped ≡ false → net.tick ≡ run.past.clock
  pub stands : StandsFor net (inputs_of all net.journal)
  pub refused_is : refused ≡ count is_refusal run.notes

abbrev pub PlayedTo : Network → List (List ℕ) → Expansion → NetNow → ℕ → Ended → Type 0
PlayedTo topology all run net refused how = Plays topology all run net refused × (run.is_stopped ≡ is_stopped how)

-- at a line of a script
pub record PlaysAt (topology : Network) (all : List (List ℕ)) (lines : List Line) (i : ℕ) (net : NetNow) (refused : ℕ) : Type 0 where
  pub run : Expansion
  pub plays : Plays topology all run net refused
  pub running : run.is_stopped ≡ false
  pub rest : expanded_from topology all run (drop i lines) ≡ expanded topology all lines
