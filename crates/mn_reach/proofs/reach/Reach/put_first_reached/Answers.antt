use Rattle.std.proofs.Common.{◌≤◌, sym, ◌∙◌, ap, map, length, arith}
use Rattle.std.specs.Prelude.{◌&&◌}
use Rattle.mn_base.proofs.Bools.{and_on}
use Rattle.mn_ledger.specs.Held.{first_of}
use Rattle.mn_reach_laws.specs.Candidates.{is_told}
use Rattle.mn_reach_laws.specs.Fates.{is_reached}
use Rattle.mn_failure_laws.specs.Failures.{config_under}
use Rattle.mn_reach.specs.Plans.{held_in}
use Rattle.mn_reach.specs.Reaching.{failure_of}
use Rattle.mn_reach.proofs.Choosing.{found, none, both}
use Rattle.mn_reach.proofs.reach.Reach.put_first_reached.Goals as goal

pub returns-then-branch-clause-some : goal.returns-then-branch-clause-some
returns-then-branch-clause-some c = λ t of yes.
    let told = is_told (config_under t (failure_of c.args.self.now)) c.args.home.0 in
    let reached = is_reached t (config_under t (failure_of c.args.self.now)) c.args.home.0 in (
      held_in c.candidate-item.result,
      sym (sym (found (λ route. told route && reached route) c.args.candidates.now c.loop-candidate.candidate-index c.candidate-item.result
          c.loop-candidate-test.true (sym c.candidate-item.is)
          (and_on _ _ (sym (c.is_told.ensures t of) ∙ c.if-is_told.true) (sym (c.in_ok-put_if_reached.ensures.reached t of) ∙ c.if-branch.true)))
          ∙ c.loop-candidate.invariant.rest t of ∙ ap first_of (both told reached (map held_in c.args.candidates.now))),
      c.in_ok-put_if_reached.ensures.fate t of c.if-branch.true,
    )

pub returns-clause-none : goal.returns-clause-none
returns-clause-none c = λ t of no.
    let told = is_told (config_under t (failure_of c.args.self.now)) c.args.home.0 in
    let reached = is_reached t (config_under t (failure_of c.args.self.now)) c.args.home.0 in
    let past : length c.args.candidates.now ≤ c.loop-candidate.candidate-index = omega arith in
    sym (sym (none (λ route. told route && reached route) c.args.candidates.now c.loop-candidate.candidate-index past)
    ∙ c.loop-candidate.invariant.rest t of ∙ ap first_of (both told reached (map held_in c.args.candidates.now)))
