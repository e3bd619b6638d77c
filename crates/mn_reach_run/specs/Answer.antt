-- What `reach TOPOLOGY [FAILURES]` is to answer.
use Rattle.std.specs.Prelude.{nat_lt, if◌then◌else◌, List, [], length, Option, Some, None, option_map, ℕ}
use Rattle.std.specs.Borrow.{Bor}
use Rattle.mn_edge.specs.Files.{Files, file}
use Rattle.mn_topo.specs.Network.{Network}
use Rattle.mn_candidates.specs.Pairs.{pairs_of, most_pairs}
use Rattle.mn_failures.specs.declared.command.FailureLine.{FailureLine}
use Rattle.mn_failures.specs.Language.{failure_says}
use Rattle.mn_answer.specs.declared.outcome.Limit.TheVariants.{Pairs}
use Rattle.mn_answer.specs.declared.outcome.Outcome.TheVariants.{Done, TooLarge}
use Rattle.mn_answer.specs.Answer.{Answer, refusal_of, with_topology, with_lines_of}
use Rattle.mn_reach_run.specs.Report.{report}

-- the name of a file, if one is given
abbrev pub name_of : Option (Bor (List ℕ)) → Option (List ℕ)
name_of given = option_map (λ (name : Bor (List ℕ)). name.now) given

-- no file is written
abbrev pub told : Network → List FailureLine → Answer
told topology lines = record { outcome = Done; files = []; running = []; early = report topology lines; text = report topology lines }

-- at most 100,000 pairs are told
abbrev pub reach_done : Network → List FailureLine → Answer
reach_done topology lines = if nat_lt most_pairs (length (pairs_of topology)) then refusal_of (TooLarge Pairs most_pairs) else told topology lines

-- of the file's failures, or with nothing failed alone where no file is named
abbrev pub reach_over : Files → Option (List ℕ) → Network → Option Answer
reach_over files None topology = Some (reach_done topology [])
reach_over files (Some failures) topology = with_lines_of (failure_says topology) (file files failures) (λ lines. Some (reach_done topology lines))

abbrev pub reach_answer : List ℕ → Option (List ℕ) → Files → Option Answer
reach_answer topology failures files = with_topology (file files topology) (reach_over files failures)
