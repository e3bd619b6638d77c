use Rattle.std.proofs.Common.{◌≡◌, ◌<◌, ◌≤◌, ◌+◌, arith, length}
use Rattle.mn_failures.specs.Failures.{edge_of}
use Rattle.mn_reach_run.proofs.Sweeping.{sweeps_none, numbers_next, numbers_cut, numbers_all}
use Rattle.mn_reach_run.proofs.sweep.play_sessions.Goals as goal

pub loop-one-init : goal.loop-one-init
loop-one-init g c = record { known = c.requires.known; told = sweeps_none c.args.at.topology.now c.args.at.settings c.args.at.line _ }

pub loop-one-preserved : goal.loop-one-preserved
loop-one-preserved g c =
    let same : c.loop-one.one ≡ 0 + c.loop-one.one = omega arith in
    let below : c.loop-one.one < length c.args.at.topology.now.loopbacks = omega arith in
    record {
      known = c.in_ok-play_sessions_of.ensures.known;
      told = numbers_next (edge_of c.args.at.topology.now) 0 (length c.args.at.topology.now.loopbacks) c.args.at.topology.now c.args.at.settings c.args.at.line
          c.loop-one.one c.loop-one.one _ _ _ same below c.loop-one.invariant.told
          (c.in_ok-play_sessions_of.ensures.told);
    }

pub returns-in_err-play_sessions_of-clause-told : goal.returns-in_err-play_sessions_of-clause-told
returns-in_err-play_sessions_of-clause-told g c =
    let same : c.loop-one.one ≡ 0 + c.loop-one.one = omega arith in
    let below : c.loop-one.one < length c.args.at.topology.now.loopbacks = omega arith in
    let e = c.in_err-play_sessions_of.field-0.0 in
    numbers_cut (edge_of c.args.at.topology.now) 0 (length c.args.at.topology.now.loopbacks) c.args.at.topology.now c.args.at.settings c.args.at.line
    c.loop-one.one c.loop-one.one _ _ _ e _ c.from_residual.ensures same below c.loop-one.invariant.told
    (c.in_err-play_sessions_of.ensures.told)

pub returns-clause-told : goal.returns-clause-told
returns-clause-told g c =
    let past : length c.args.at.topology.now.loopbacks ≤ c.loop-one.one = omega arith in
    numbers_all (edge_of c.args.at.topology.now) 0 (length c.args.at.topology.now.loopbacks) c.args.at.topology.now c.args.at.settings c.args.at.line
    c.loop-one.one _ _ past c.loop-one.invariant.told
