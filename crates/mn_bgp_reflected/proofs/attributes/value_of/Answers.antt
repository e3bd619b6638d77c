use Rattle.std.proofs.Common.{Some, ap, sym, ◌∙◌}
use Rattle.mn_bgp_wire.specs.Grammar.{PathAttribute}
use Rattle.mn_bgp_reflected.proofs.Walk.{finds, goes_on, ends, falls}
use Rattle.mn_bgp_reflected.proofs.attributes.value_of.Goals as goal

pub attributes-smaller : goal.attributes-smaller
attributes-smaller c = falls c.attributes.rest.now c.in-Some.attribute c.in-Some.others.now (sym c.in-Some.ensures)

pub returns-then-attribute-kind : goal.returns-then-attribute-kind
returns-then-attribute-kind c = λ attributes e.
    ap (λ (a : PathAttribute). Some a.value) c.attribute.view_is
    ∙ finds c.args.kind attributes c.attributes.rest.now c.in-Some.attribute c.in-Some.others.now (sym c.in-Some.ensures)
    (sym (ap (λ (a : PathAttribute). a.kind) c.attribute.view_is) ∙ c.if-attribute-kind.true) (c.attributes.invariant attributes e)

pub attributes-preserved : goal.attributes-preserved
attributes-preserved c = λ all e.
    goes_on c.args.kind all c.attributes.rest.now c.in-Some.attribute c.in-Some.others.now (sym c.in-Some.ensures)
    (λ same. c.if-attribute-kind.false (ap (λ (a : PathAttribute). a.kind) c.attribute.view_is ∙ same)) (c.attributes.invariant all e)

pub returns : goal.returns
returns c = λ attributes e. ends c.args.kind attributes c.attributes.rest.now (sym c.in_default.ensures) (c.attributes.invariant attributes e)
