use Rattle.std.proofs.Common.{sym, ◌∙◌, ap}
use Rattle.mn_bgp_wire.specs.Reading.{attributes_of, or_else}
use Rattle.mn_bgp_wire.specs.declared.refusal.BgpWireBad.TheVariants.{BadAttribute}
use Rattle.mn_bgp_wire.proofs.Parts.{attribute_shortens}
use Rattle.mn_bgp_wire.proofs.Split.{split_goes_on, split_fails, split_ends}
use Rattle.mn_bgp_wire.proofs.attributes.attributes_of.Goals as goal

pub attributes-smaller : goal.attributes-smaller
attributes-smaller c = attribute_shortens c.attributes.rest.now (c.in-Some.attribute, c.in-Some.others.now) (sym c.in-Some.ensures)

pub attributes-preserved : goal.attributes-preserved
attributes-preserved c =
    split_goes_on c.attributes.attributes.items c.push.new.self.items c.attributes.rest.now c.in-Some.attribute c.in-Some.others.now
    (attributes_of c.args.bytes.now) (sym c.in-Some.ensures) c.in_ok-push.ensures.items c.attributes.invariant

pub returns : goal.returns
returns c =
    ap (or_else BadAttribute)
    (split_ends c.attributes.attributes.items c.attributes.rest.now (attributes_of c.args.bytes.now)
    (sym c.is_empty.ensures ∙ c.attributes-test.false) c.attributes.invariant)

pub returns-in_default : goal.returns-in_default
returns-in_default c =
    ap (or_else BadAttribute)
    (split_fails c.attributes.attributes.items c.attributes.rest.now (attributes_of c.args.bytes.now) (sym c.is_empty.ensures ∙ c.attributes-test.true)
    (sym c.in_default.ensures) c.attributes.invariant)
