use Rattle.std.proofs.Common.{◌≡◌, ◌<◌, ◌≤◌, ◌+◌, ◌∙◌, ap, sym, arith, [], length}
use Rattle.mn_failures.specs.Failures.{session_of, sessions_of, edge_of}
use Rattle.std.specs.Prelude.{Ok, if◌then◌else◌}
use Rattle.mn_reach_run.specs.Playing.{now_at}
use Rattle.mn_reach_run.proofs.Sweeping.{sweeps_none, numbers_next, numbers_cut, numbers_all, sweeps_as}
use Rattle.mn_reach_run.proofs.sweep.play_sessions_of.Goals as goal

pub loop-other-init : goal.loop-other-init
loop-other-init g c = record { known = c.requires.known; told = sweeps_none c.args.at.topology.now c.args.at.settings c.args.at.line _ }

pub loop-other-preserved : goal.loop-other-preserved
loop-other-preserved g c =
    let same : c.loop-other.other ≡ 0 + c.loop-other.other = omega arith in
    let below : c.loop-other.other < length c.args.at.topology.now.loopbacks = omega arith in
    record {
      known = c.in_ok-play_session.ensures.known;
      told = numbers_next (session_of c.args.at.topology.now c.args.one) 0 (length c.args.at.topology.now.loopbacks) c.args.at.topology.now c.args.at.settings
          c.args.at.line c.loop-other.other c.loop-other.other _ _ _ same below c.loop-other.invariant.told
          (c.in_ok-play_session.ensures.told);
    }

pub returns-in_err-play_session-clause-told : goal.returns-in_err-play_session-clause-told
returns-in_err-play_session-clause-told g c =
    let same : c.loop-other.other ≡ 0 + c.loop-other.other = omega arith in
    let below : c.loop-other.other < length c.args.at.topology.now.loopbacks = omega arith in
    let e = c.in_err-play_session.field-0.0 in
    sweeps_as c.args.at.topology.now c.args.at.settings c.args.at.line (sessions_of c.args.at.topology.now c.args.one)
    (edge_of c.args.at.topology.now c.args.one) _ (now_at c.play_session.new.player.sums _) _
    (sym (ap (λ b. if b then sessions_of c.args.at.topology.now c.args.one else []) (sym c.is_edge.ensures ∙ c.if-not-is_edge.false)))
    (numbers_cut (session_of c.args.at.topology.now c.args.one) 0 (length c.args.at.topology.now.loopbacks) c.args.at.topology.now c.args.at.settings
    c.args.at.line c.loop-other.other c.loop-other.other _ _ _ e _ c.from_residual.ensures same below c.loop-other.invariant.told
    (c.in_err-play_session.ensures.told))

pub returns-clause-told : goal.returns-clause-told
returns-clause-told g c =
    let past : length c.args.at.topology.now.loopbacks ≤ c.loop-other.other = omega arith in
    sweeps_as c.args.at.topology.now c.args.at.settings c.args.at.line (sessions_of c.args.at.topology.now c.args.one)
    (edge_of c.args.at.topology.now c.args.one) _ _ (Ok tt)
    (sym (ap (λ b. if b then sessions_of c.args.at.topology.now c.args.one else []) (sym c.is_edge.ensures ∙ c.if-not-is_edge.false)))
    (numbers_all (session_of c.args.at.topology.now c.args.one) 0 (length c.args.at.topology.now.loopbacks) c.args.at.topology.now c.args.at.settings
    c.args.at.line c.loop-other.other _ _ past c.loop-other.invariant.told)
