use Rattle.std.proofs.Common.{◌≡◌, [], drop}
use Rattle.std.specs.Prelude.{◌&&◌}
use Rattle.mn_topo.specs.Network.{Network}
use Rattle.mn_reach_laws.specs.Candidates.{is_told}
use Rattle.mn_reach_laws.specs.Fates.{is_reached}
use Rattle.mn_failure_laws.specs.Failures.{config_under}
use Rattle.mn_reach.specs.Plans.{IsOf}
use Rattle.mn_reach.specs.Reaching.{failure_of}
use Rattle.mn_reach.proofs.Choosing.{first_passing}
use Rattle.mn_reach.proofs.reach.Reach.put_first_reached.Given as goal

abbrev pub invariant-loop-candidate : goal.invariant-loop-candidate
invariant-loop-candidate l = record {
  rest : (topology : Network) → IsOf topology l.self.plan →
      first_passing (λ route. is_told (config_under topology (failure_of l.self)) l.home.0 route && is_reached topology
      (config_under topology (failure_of l.self)) l.home.0 route)
      (drop l.candidate-index l.candidates)
      ≡ first_passing (λ route. is_told (config_under topology (failure_of l.self)) l.home.0 route && is_reached topology
      (config_under topology (failure_of l.self)) l.home.0 route)
      l.candidates;
  empty : l.into.path.items ≡ [];
}
