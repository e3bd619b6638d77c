use Rattle.std.proofs.Common.{◌∙◌, length, ◌<◌, length-set, arith}
use Rattle.mn_way.specs.Switched.{IsSameBut}
use Rattle.mn_way.proofs.Turning.{roots-stay, left-after, waiting-after, done-after}
use Rattle.mn_way.proofs.trees.turn_all.Goals as goal

pub returns-in_err-turn-clause-roots : goal.returns-in_err-turn-clause-roots
returns-in_err-turn-clause-roots c =
    let there : c.loop-at.at < length c.loop-at.trees.items = omega arith in
    roots-stay c.loop-at.trees.items c.loop-at.at c.index_mut.result.now c.turn.new.self _ c.index_mut.ensures.value there c.turn.ensures.same
    ∙ c.loop-at.invariant.roots

pub loop-at-preserved : goal.loop-at-preserved
loop-at-preserved c =
    let trees = c.loop-at.trees.items in
    let at = c.loop-at.at in
    let new = c.turn.new.self in
    let l = c.args.link.0 in
    let up = c.args.up in
    let old = c.index_mut.result.now in
    let is = c.index_mut.ensures.value in
    let same : IsSameBut old new = c.turn.ensures.same in
    let turned = c.in_ok-turn.ensures.turned in
    let there : at < length trees = omega arith in
    record {
      count = length-set trees at new ∙ c.loop-at.invariant.count;
      roots = roots-stay trees at old new _ is there same ∙ c.loop-at.invariant.roots;
      left = left-after trees at old new _ is there same l up c.loop-at.invariant.left;
      done =
          λ links ups all. done-after trees at old new _ is there same l up turned.0 turned.1 links ups (c.loop-at.invariant.waiting links ups all)
          (c.loop-at.invariant.done links ups all);
      waiting =
          λ links ups all. waiting-after trees at old new _ is there same l up turned.0 turned.1 links ups (c.loop-at.invariant.waiting links ups all);
    }

pub returns-clause-turned : goal.returns-clause-turned
returns-clause-turned c = λ links ups all k d h.
    c.loop-at.invariant.done links ups all k d (omega (arith, h)) h
