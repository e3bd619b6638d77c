use Rattle.std.proofs.Common.{◌≡◌, ◌∙◌, ap, sym, Bool, true, false, Some, None}
use Rattle.std.specs.Prelude.{option_map}
use Rattle.mn_vrf.specs.Vrf.{VrfState}
use Rattle.mn_net_laws.specs.Refusal.{of_vrf}
use Rattle.mn_net.specs.Parts.{shown, targets_of}
use Rattle.mn_net_laws.proofs.Asked.{asked_of}
use Rattle.mn_net.proofs.vrfs.targets_of.Goals as goal

pub returns-in_err-held : goal.returns-in_err-held
returns-in_err-held c =
    ap (option_map _) c.from_residual.ensures
    ∙ asked_of c.args.topology.now (shown c.args.routes.now) c.args.vrf.0 (λ (state : VrfState). Some (targets_of c.args.exported state)) None
    c.in_err-held.ensures

pub returns-then-exported : goal.returns-then-exported
returns-then-exported c =
    ap Some c.exports.ensures
    ∙ asked_of c.args.topology.now (shown c.args.routes.now) c.args.vrf.0 (λ (state : VrfState). Some (targets_of true state))
    (Some c.in_ok-held.held.now.vrf) c.in_ok-held.ensures
    ∙ ap (λ (b : Bool). of_vrf c.args.topology.now (shown c.args.routes.now) c.args.vrf.0 (λ (state : VrfState). Some (targets_of b state)))
    (sym c.if-exported.true)

pub returns : goal.returns
returns c =
    ap Some c.imports.ensures
    ∙ asked_of c.args.topology.now (shown c.args.routes.now) c.args.vrf.0 (λ (state : VrfState). Some (targets_of false state))
    (Some c.in_ok-held.held.now.vrf) c.in_ok-held.ensures
    ∙ ap (λ (b : Bool). of_vrf c.args.topology.now (shown c.args.routes.now) c.args.vrf.0 (λ (state : VrfState). Some (targets_of b state)))
    (sym c.if-exported.false)
