use Rattle.std.proofs.Common.{◌<◌, ◌≤◌, ◌+◌, arith, length}
use Rattle.mn_failures.specs.Failures.{third_with}
use Rattle.mn_reach_run.proofs.Sweeping.{from_none, from_next, from_cut, from_all}
use Rattle.mn_reach_run.proofs.sweep.play_middles.Goals as goal

pub loop-second-init : goal.loop-second-init
loop-second-init g c = record {
  known = c.requires.known;
  told = from_none (third_with c.args.at.topology.now c.args.first) (c.args.first + 1)
      (length c.args.at.topology.now.links) c.args.at.topology.now c.args.at.settings c.args.at.line _;
}

pub loop-second-preserved : goal.loop-second-preserved
loop-second-preserved g c =
    let above : (c.args.first + 1) ≤ c.loop-second.second = omega arith in
    let below : c.loop-second.second < length c.args.at.topology.now.links = omega arith in
    record {
      known = c.in_ok-play_middle.ensures.known;
      told = from_next (third_with c.args.at.topology.now c.args.first) (c.args.first + 1) (length c.args.at.topology.now.links) c.args.at.topology.now
          c.args.at.settings c.args.at.line c.loop-second.second _ _ _ above below c.loop-second.invariant.told
          (c.in_ok-play_middle.ensures.told);
    }

pub returns-in_err-play_middle-clause-told : goal.returns-in_err-play_middle-clause-told
returns-in_err-play_middle-clause-told g c =
    let above : (c.args.first + 1) ≤ c.loop-second.second = omega arith in
    let below : c.loop-second.second < length c.args.at.topology.now.links = omega arith in
    let e = c.in_err-play_middle.field-0.0 in
    from_cut (third_with c.args.at.topology.now c.args.first) (c.args.first + 1) (length c.args.at.topology.now.links) c.args.at.topology.now c.args.at.settings
    c.args.at.line c.loop-second.second _ _ _ e _ c.from_residual.ensures above below c.loop-second.invariant.told
    (c.in_err-play_middle.ensures.told)

pub returns-clause-told : goal.returns-clause-told
returns-clause-told g c =
    let past : length c.args.at.topology.now.links ≤ c.loop-second.second = omega arith in
    from_all (third_with c.args.at.topology.now c.args.first) (c.args.first + 1) (length c.args.at.topology.now.links) c.args.at.topology.now c.args.at.settings
    c.args.at.line c.loop-second.second _ _ past c.loop-second.invariant.told
