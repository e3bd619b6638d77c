use Rattle.std.proofs.Common.{◌∙◌, ◌<◌, ◌≤◌, length, arith, ap}
use Rattle.mn_way.proofs.Turning.{can-raise, one-raised, all-raised}
use Rattle.mn_way.proofs.trees.raise.Goals as goal

pub turn-requires-clause-turns : goal.turn-requires-clause-turns
turn-requires-clause-turns c =
    let n = length c.args.tree.now.ends in
    let below : c.loop-number.number < n = omega (arith, ap length c.ends-links.ensures) in
    can-raise c.loop-number.number n c.loop-number.tree.up below c.loop-number.invariant.up

pub loop-number-preserved : goal.loop-number-preserved
loop-number-preserved c =
    let before = c.loop-number in
    record {
      same = record {
        root = c.turn.ensures.of.0 ∙ before.invariant.same.root;
        nodes = c.turn.ensures.of.1 ∙ before.invariant.same.nodes;
        ends = c.turn.ensures.of.2 ∙ before.invariant.same.ends;
      };
      up =
          λ m h. c.in_ok-turn.ensures.turned
          ∙ one-raised before.number (length c.args.tree.now.ends) before.tree.up before.invariant.up m h;
      sound = c.in_ok-turn.ensures.ok.1;
    }

pub returns-clause-up : goal.returns-clause-up
returns-clause-up c =
    let n = length c.args.tree.now.ends in
    let k = c.loop-number.number in
    let least : n ≤ k = omega (arith, ap length c.ends-links.ensures) in
    let most : k ≤ n = omega (arith, ap length c.ends-links.ensures) in
    all-raised k n c.loop-number.tree.up least most c.loop-number.invariant.up
