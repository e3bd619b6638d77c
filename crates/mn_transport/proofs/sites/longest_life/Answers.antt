use Rattle.std.proofs.Common.{List, ◌≡◌, ◌<◌, ◌∙◌, length, arith, subst}
use Rattle.mn_wiring.specs.declared.links.LinkEnds.{LinkEnds}
use Rattle.mn_transport.proofs.Life.{longest-step, longest-all}
use Rattle.mn_transport.proofs.sites.longest_life.Goals as goal

pub life_at-life-requires : goal.life_at-life-requires
life_at-life-requires c = subst (λ (xs : List LinkEnds). c.loop-number.number < length xs) c.links-links.ensures c.loop-number-test.true

pub loop-number-preserved : goal.loop-number-preserved
loop-number-preserved c =
    longest-step c.args.topology.now c.args.node.0 c.loop-number.number c.life_at-life.result c.loop-number.longest _ c.life_at-life.ensures
    c.loop-number.invariant c.max-longest.ensures

pub returns : goal.returns
returns c =
    let all : c.loop-number.number ≡ length c.links-links.result.now =
    (let h = c.loop-number-test.false in let n = c.loop-number.auto.number-end in omega (arith, h, n)) in
    c.loop-number.invariant ∙ longest-all c.args.topology.now c.args.node.0 c.loop-number.number c.links-links.result.now c.links-links.ensures all
