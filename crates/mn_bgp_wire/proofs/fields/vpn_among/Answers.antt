use Rattle.std.proofs.Common.{sym, ◌∙◌}
use Rattle.mn_bgp_wire.specs.Reading.{vpn_among}
use Rattle.mn_bgp_wire.proofs.Parts.{field_shortens}
use Rattle.mn_bgp_wire.proofs.Offered.{among_goes_on, among_fails, among_ends}
use Rattle.mn_bgp_wire.proofs.fields.vpn_among.Goals as goal

pub capabilities-smaller : goal.capabilities-smaller
capabilities-smaller c = field_shortens c.capabilities.rest.now (c.in_ok-capability.capability, c.in_ok-capability.others.now) (sym c.in_ok-capability.ensures)

pub capabilities-preserved : goal.capabilities-preserved
capabilities-preserved c =
    among_goes_on c.capabilities.found c.is_vpn-found.result c.capabilities.rest.now c.in_ok-capability.capability c.in_ok-capability.others.now
    (vpn_among c.args.capabilities.now) (sym c.in_ok-capability.ensures) (sym c.is_vpn-found.ensures) c.capabilities.invariant

pub returns : goal.returns
returns c =
    sym (among_ends c.capabilities.found c.capabilities.rest.now (vpn_among c.args.capabilities.now)
    (sym c.is_empty.ensures ∙ c.capabilities-test.false) c.capabilities.invariant)

pub returns-in_err-capability : goal.returns-in_err-capability
returns-in_err-capability c =
    c.from_residual.ensures
    ∙ sym (among_fails c.capabilities.found c.capabilities.rest.now (vpn_among c.args.capabilities.now) (sym c.is_empty.ensures ∙ c.capabilities-test.true)
    (sym c.in_err-capability.ensures) c.capabilities.invariant)
