-- What a call has told where all was done.
use Rattle.std.proofs.Common.{◌≡◌, ◌≤◌, ◌<◌, ℕ, Bool, true, false, List, length, Option, Some, Ok, refl, sym, ◌∙◌, ap}
use Rattle.std.specs.Prelude.{option_map, ◌++◌, nat_lt, if◌then◌else◌}
use Rattle.mn_base.proofs.Bools.{less_is, not_less}
use Rattle.mn_edge.specs.Files.{Files, file}
use Rattle.mn_topo.specs.Network.{Network}
use Rattle.mn_topo_toml.specs.Topology.{topology_of}
use Rattle.mn_candidates.specs.Pairs.{pairs_of, most_pairs}
use Rattle.mn_failure_laws.specs.Fates.{AllComeToTheirFates}
use Rattle.mn_failures.specs.declared.command.FailureLine.{FailureLine}
use Rattle.mn_failures.specs.declared.command.Part.{Part}
use Rattle.mn_failures.specs.declared.command.Resolve.{Resolve}
use Rattle.mn_answer.specs.declared.outcome.Outcome.{Outcome}
use Rattle.mn_answer.specs.declared.outcome.Limit.TheVariants.{Pairs}
use Rattle.mn_answer.specs.declared.outcome.Outcome.TheVariants.{Done, TooLarge}
use Rattle.mn_answer.specs.Answer.{Answer, refusal_of}
use Rattle.mn_answer.specs.Endings.{TextIs, OutcomeIs}
use Rattle.mn_answer.proofs.Ending.{WritesNone}
use Rattle.mn_reach_run.specs.Fates.{failure_under, network_by}
use Rattle.mn_reach_run.specs.Report.{report}
use Rattle.mn_reach_run.specs.Answer.{told, reach_done}
use Rattle.mn_reach_run.specs.Headline.{AreRead, AreFailuresTold, IsReachTold}

pub reach_told : (topology : Network) (name : List ℕ) (failures : Option (List ℕ)) (files : Files) (before : List ℕ) (written : Option (List ℕ)) (o : Outcome) →
    option_map topology_of (file files name) ≡ Some (Ok topology) → AreFailuresTold topology failures files before written o →
    IsReachTold name failures files before written o
reach_told topology name failures files before written Done read kept = record { topology = topology; topology_read = read; tells = kept }
reach_told topology name failures files before written _ read kept = tt

-- pairs are too many, or their report stands
pub failures_told : (topology : Network) (failures : Option (List ℕ)) (lines : List FailureLine) (files : Files) (before : List ℕ) (written : Option (List ℕ))
    (o : Outcome) →
    AreRead topology failures files lines →
    ((resolve : Resolve) (ends : Bool) (parts : List Part) → AllComeToTheirFates (network_by topology resolve) (failure_under topology ends parts)) →
    TextIs (Some (reach_done topology lines)) before written o → OutcomeIs (Some (reach_done topology lines)) o →
    AreFailuresTold topology failures files before written o
failures_told topology failures lines files before written Done read fates text outcome =
    record { lines = lines; lines_read = read; fates = fates; told = by (nat_lt most_pairs (length (pairs_of topology))) refl }
  where
    by : (b : Bool) → nat_lt most_pairs (length (pairs_of topology)) ≡ b → written ≡ Some (before ++ report topology lines)
    by true is =
        let many : reach_done topology lines ≡ refusal_of (TooLarge Pairs most_pairs) =
        ap (λ b. if b then refusal_of (TooLarge Pairs most_pairs) else told topology lines) is in
        let no : TooLarge Pairs most_pairs ≡ Done = sym (ap (λ (a : Answer). a.outcome) many) ∙ outcome in cc
    by false is =
        let few : reach_done topology lines ≡ told topology lines = ap (λ b. if b then refusal_of (TooLarge Pairs most_pairs) else told topology lines) is in
        text ∙ ap (λ (a : Answer). Some (before ++ a.text)) few
failures_told topology failures lines files before written _ read fates text outcome = tt

-- no file is written
pub writes_none : (topology : Network) (lines : List FailureLine) → WritesNone (Some (reach_done topology lines))
writes_none topology lines = by (nat_lt most_pairs (length (pairs_of topology)))
  where
    by : (b : Bool) → WritesNone (Some (if b then refusal_of (TooLarge Pairs most_pairs) else told topology lines))
    by true = refl
    by false = refl

-- pairs are few, or too many
pub few_told : (topology : Network) (lines : List FailureLine) (n : ℕ) → n ≡ length (pairs_of topology) → n ≤ most_pairs →
    told topology lines ≡ reach_done topology lines
few_told topology lines n is few =
    sym (ap (λ b. if b then refusal_of (TooLarge Pairs most_pairs) else told topology lines)
    (ap (nat_lt most_pairs) (sym is) ∙ not_less most_pairs n few))

pub many_refused : (topology : Network) (lines : List FailureLine) → most_pairs < length (pairs_of topology) →
    refusal_of (TooLarge Pairs most_pairs) ≡ reach_done topology lines
many_refused topology lines many =
    sym (ap (λ b. if b then refusal_of (TooLarge Pairs most_pairs) else told topology lines) (less_is most_pairs (length (pairs_of topology)) many))
