use Rattle.std.proofs.Common.{◌≡◌, ◌<◌, ◌≤◌, ◌+◌, arith, length}
use Rattle.mn_failures.specs.Failures.{first_with}
use Rattle.mn_reach_run.proofs.Sweeping.{sweeps_none, numbers_next, numbers_cut, numbers_all}
use Rattle.mn_reach_run.proofs.sweep.play_many.Goals as goal

pub loop-first-init : goal.loop-first-init
loop-first-init g c = record { known = c.requires.known; told = sweeps_none c.args.at.topology.now c.args.at.settings c.args.at.line _ }

pub loop-first-preserved : goal.loop-first-preserved
loop-first-preserved g c =
    let same : c.loop-first.first ≡ 0 + c.loop-first.first = omega arith in
    let below : c.loop-first.first < length c.args.at.topology.now.links = omega arith in
    record {
      known = c.in_ok-play_first.ensures.known;
      told = numbers_next (first_with c.args.at.topology.now c.args.asked.many c.args.asked.from c.args.asked.to) 0 (length c.args.at.topology.now.links)
          c.args.at.topology.now c.args.at.settings c.args.at.line c.loop-first.first c.loop-first.first _ _ _ same below c.loop-first.invariant.told
          (c.in_ok-play_first.ensures.told);
    }

pub returns-in_err-play_first-clause-told : goal.returns-in_err-play_first-clause-told
returns-in_err-play_first-clause-told g c =
    let same : c.loop-first.first ≡ 0 + c.loop-first.first = omega arith in
    let below : c.loop-first.first < length c.args.at.topology.now.links = omega arith in
    let e = c.in_err-play_first.field-0.0 in
    numbers_cut (first_with c.args.at.topology.now c.args.asked.many c.args.asked.from c.args.asked.to) 0
    (length c.args.at.topology.now.links) c.args.at.topology.now c.args.at.settings c.args.at.line c.loop-first.first c.loop-first.first _ _ _ e _
    c.from_residual.ensures same below c.loop-first.invariant.told
    (c.in_err-play_first.ensures.told)

pub returns-clause-told : goal.returns-clause-told
returns-clause-told g c =
    let past : length c.args.at.topology.now.links ≤ c.loop-first.first = omega arith in
    numbers_all (first_with c.args.at.topology.now c.args.asked.many c.args.asked.from c.args.asked.to) 0
    (length c.args.at.topology.now.links) c.args.at.topology.now c.args.at.settings c.args.at.line c.loop-first.first _ _ past c.loop-first.invariant.told
