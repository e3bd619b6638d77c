use Rattle.std.proofs.Common.{◌<◌, length, refl, ◌∙◌, ap, arith}
use Rattle.mn_edge.specs.declared.device.DeviceBad.TheVariants.{NoMemory}
use Rattle.mn_flood.specs.Floods.{FloodNow}
use Rattle.mn_flood_run.proofs.Plays.{none_played, want_at, line_played, line_cut, line_full, plays_err, item_is, at_most_one}
use Rattle.mn_flood_run.proofs.play.play.Goals as goal

pub loop-line-init : goal.loop-line-init
loop-line-init g c = record {
  over = ap (λ (n : FloodNow). n.wiring) c.requires.start;
  few = omega arith;
  played = none_played c.args.topology.now c.args.flood.now _
      (record {
        world = ap (λ (n : FloodNow). n.world) c.requires.start;
        steps = ap (λ (n : FloodNow). n.done) c.requires.start;
        works = ap (λ (n : FloodNow). n.failed) c.requires.start;
        goes_on = refl;
        few = omega arith;
      });
}

pub loop-line-preserved : goal.loop-line-preserved
loop-line-preserved g c =
    let below : c.loop-line.line-index < length c.args.lines.now = c.loop-line-test.true in
    record {
      over = c.in_ok-played.ensures.wiring ∙ c.loop-line.invariant.over;
      few = let few = c.loop-line.invariant.few in let one = at_most_one c.in_ok-played.played in let count = c.in_ok-refused.ensures.counted in omega (
        arith,
        few,
        one,
        count,
      );
      played = line_played c.args.topology.now c.args.lines.now c.loop-line.line-index _ _ c.loop-line.refused c.loop-line.flood c.loop-line.invariant.played _
          below
          (item_is c.args.lines.now c.loop-line.line-index _ below) c.loop-line.flood.wiring c.loop-line.invariant.over c.in_ok-played.played
          c.play_line.new.flood
          c.in_ok-played.ensures.played _ c.in_ok-refused.field-0 c.in_default.not-TooManySteps c.in_ok-refused.ensures.told c.in_ok-refused.ensures.counted;
    }

pub returns-in_err-played-clause-played : goal.returns-in_err-played-clause-played
returns-in_err-played-clause-played g c =
    plays_err c.args.topology.now c.args.lines.now c.play_line.new.flood _ _ NoMemory c.from_residual.result c.from_residual.ensures
    (want_at c.args.topology.now c.args.lines.now c.loop-line.line-index _ _ c.loop-line.refused c.loop-line.flood c.loop-line.invariant.played)

pub returns-in-TooManySteps-clause-played : goal.returns-in-TooManySteps-clause-played
returns-in-TooManySteps-clause-played g c =
    let below : c.loop-line.line-index < length c.args.lines.now = c.loop-line-test.true in
    line_full c.args.topology.now c.args.lines.now c.loop-line.line-index _ _ c.loop-line.refused c.loop-line.flood c.loop-line.invariant.played _ below
    (item_is c.args.lines.now c.loop-line.line-index _ below) c.loop-line.flood.wiring c.loop-line.invariant.over c.in_ok-played.played c.play_line.new.flood
    c.in_ok-played.ensures.played c.in-TooManySteps.is

pub returns-in_err-refused-clause-played : goal.returns-in_err-refused-clause-played
returns-in_err-refused-clause-played g c =
    let below : c.loop-line.line-index < length c.args.lines.now = c.loop-line-test.true in
    plays_err c.args.topology.now c.args.lines.now c.play_line.new.flood _ _ c.in_err-refused.field-0.0 c.from_residual-in_err-refused.result
    c.from_residual-in_err-refused.ensures
    (line_cut c.args.topology.now c.args.lines.now c.loop-line.line-index _ _ c.loop-line.refused c.loop-line.flood c.loop-line.invariant.played _ below
    (item_is c.args.lines.now c.loop-line.line-index _ below) c.loop-line.flood.wiring c.loop-line.invariant.over c.in_ok-played.played c.play_line.new.flood
    c.in_ok-played.ensures.played _ c.in_err-refused.field-0.0 c.in_err-refused.ensures.told)
