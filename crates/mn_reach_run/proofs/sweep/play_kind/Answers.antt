use Rattle.std.proofs.Common.{◌≡◌, ◌<◌, ◌≤◌, ◌+◌, ap, arith, [], ◌∷◌}
use Rattle.mn_reach_run.specs.Sweeping.{alone, count_of}
use Rattle.mn_failures.specs.declared.command.Part.{Part}
use Rattle.std.specs.Prelude.{Ok, Err}
use Rattle.mn_reach_run.specs.Playing.{now_at}
use Rattle.mn_reach_run.proofs.Sweeping.{sweeps_none, numbers_next, numbers_cut, numbers_all, sweeps_as}
use Rattle.mn_reach_run.proofs.sweep.play_kind.Goals as goal

pub loop-number-init : goal.loop-number-init
loop-number-init g c = record { known = c.requires.known; told = sweeps_none c.args.at.topology.now c.args.at.settings c.args.at.line _ }

pub loop-number-preserved : goal.loop-number-preserved
loop-number-preserved g c =
    let same : c.loop-number.number ≡ 0 + c.loop-number.number = omega arith in
    let below : c.loop-number.number < count_of c.args.at.topology.now c.args.kind = omega arith in
    record {
      known = c.in_ok-play_one.ensures.known;
      told = numbers_next (alone c.args.kind) 0 (count_of c.args.at.topology.now c.args.kind) c.args.at.topology.now c.args.at.settings c.args.at.line
          c.loop-number.number c.loop-number.number _ _ _ same below c.loop-number.invariant.told
          (sweeps_as c.args.at.topology.now c.args.at.settings c.args.at.line _ (alone c.args.kind c.loop-number.number) _ (now_at c.play_one.new.player.sums _)
          (Ok tt) (ap (λ (p : Part). (p ∷ []) ∷ []) c.part_of.ensures) c.in_ok-play_one.ensures.told);
    }

pub returns-in_err-play_one-clause-told : goal.returns-in_err-play_one-clause-told
returns-in_err-play_one-clause-told g c =
    let same : c.loop-number.number ≡ 0 + c.loop-number.number = omega arith in
    let below : c.loop-number.number < count_of c.args.at.topology.now c.args.kind = omega arith in
    let e = c.in_err-play_one.field-0.0 in
    numbers_cut (alone c.args.kind) 0 (count_of c.args.at.topology.now c.args.kind) c.args.at.topology.now c.args.at.settings c.args.at.line
    c.loop-number.number c.loop-number.number _ _ _ e _ c.from_residual.ensures same below c.loop-number.invariant.told
    (sweeps_as c.args.at.topology.now c.args.at.settings c.args.at.line _ (alone c.args.kind c.loop-number.number) _ (now_at c.play_one.new.player.sums _)
    (Err e) (ap (λ (p : Part). (p ∷ []) ∷ []) c.part_of.ensures) c.in_err-play_one.ensures.told)

pub returns-clause-told : goal.returns-clause-told
returns-clause-told g c =
    let past : count_of c.args.at.topology.now c.args.kind ≤ c.loop-number.number = omega arith in
    numbers_all (alone c.args.kind) 0 (count_of c.args.at.topology.now c.args.kind) c.args.at.topology.now c.args.at.settings c.args.at.line
    c.loop-number.number _ _ past c.loop-number.invariant.told
