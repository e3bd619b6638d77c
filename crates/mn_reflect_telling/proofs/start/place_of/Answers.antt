use Rattle.std.proofs.Common.{◌≡◌, ◌∙◌, ap, sym, length, arith, refl}
use Rattle.mn_reflect_telling.specs.Mentions.{numbers_of}
use Rattle.mn_reflect_telling.proofs.Addresses.{placed_from, passes, puts, put_last}
use Rattle.mn_reflect_telling.proofs.start.place_of.Goals as goal

pub loop-at-preserved : goal.loop-at-preserved
loop-at-preserved c =
    sym (passes c.args.topology.now c.args.node.0 c.args.others.now c.loop-at.at c.loopback_of-address.result c.loopback_of.result _ c.loop-at-test.true
    c.loopback_of-address.ensures c.loopback_of.ensures c.if-address-loopback_of.false) ∙ c.loop-at.invariant

pub returns-then-address-loopback_of-clause-place : goal.returns-then-address-loopback_of-clause-place
returns-then-address-loopback_of-clause-place c =
    puts c.args.topology.now c.args.node.0 c.args.others.now c.loop-at.at c.loopback_of-address.result c.loopback_of.result _ c.loop-at-test.true
    c.loopback_of-address.ensures c.loopback_of.ensures c.if-address-loopback_of.true ∙ c.loop-at.invariant

pub returns-clause-place : goal.returns-clause-place
returns-clause-place c =
    let done : c.loop-at.at ≡ length c.args.others.now = omega arith in
    put_last c.args.topology.now c.args.node.0 c.args.others.now (length c.args.others.now) refl
    ∙ ap (λ k. placed_from c.args.topology.now c.args.node.0 k (numbers_of c.args.others.now)) (sym done) ∙ c.loop-at.invariant
