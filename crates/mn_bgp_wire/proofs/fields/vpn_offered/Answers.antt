use Rattle.std.proofs.Common.{sym, ◌∙◌}
use Rattle.mn_bgp_wire.specs.Reading.{vpn_offered}
use Rattle.mn_bgp_wire.proofs.Parts.{field_shortens}
use Rattle.mn_bgp_wire.proofs.Offered.{offered_goes_on, offered_fails, offered_fails_in, offered_ends}
use Rattle.mn_bgp_wire.proofs.fields.vpn_offered.Goals as goal

pub parameters-smaller : goal.parameters-smaller
parameters-smaller c = field_shortens c.parameters.rest.now (c.in_ok-parameter.parameter, c.in_ok-parameter.others.now) (sym c.in_ok-parameter.ensures)

pub parameters-preserved : goal.parameters-preserved
parameters-preserved c =
    offered_goes_on c.parameters.found c.in_ok-found.field-0 c.parameters.rest.now c.in_ok-parameter.parameter c.in_ok-parameter.others.now
    (vpn_offered c.args.parameters.now) (sym c.in_ok-parameter.ensures) (sym c.in_ok-found.ensures) c.parameters.invariant

pub returns : goal.returns
returns c =
    sym (offered_ends c.parameters.found c.parameters.rest.now (vpn_offered c.args.parameters.now)
    (sym c.is_empty.ensures ∙ c.parameters-test.false) c.parameters.invariant)

pub returns-in_err-parameter : goal.returns-in_err-parameter
returns-in_err-parameter c =
    c.from_residual.ensures
    ∙ sym (offered_fails c.parameters.found c.parameters.rest.now (vpn_offered c.args.parameters.now) (sym c.is_empty.ensures ∙ c.parameters-test.true)
    (sym c.in_err-parameter.ensures) c.parameters.invariant)

pub returns-in_err-found : goal.returns-in_err-found
returns-in_err-found c =
    c.from_residual-in_err-found.ensures
    ∙ sym (offered_fails_in c.parameters.found c.parameters.rest.now c.in_ok-parameter.parameter c.in_ok-parameter.others.now
    (vpn_offered c.args.parameters.now) (sym c.in_ok-parameter.ensures) (sym c.in_err-found.ensures) c.parameters.invariant)
