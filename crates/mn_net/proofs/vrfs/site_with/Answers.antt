use Rattle.std.proofs.Common.{ℕ, ◌≡◌, ◌∙◌, ap, sym, Option, Some, None}
use Rattle.std.specs.Prelude.{option_map}
use Rattle.mn_base.specs.declared.numbers.SiteNo.{SiteNo}
use Rattle.mn_prefix.specs.Prefix.{AddressBlock}
use Rattle.mn_vrf.specs.Vrf.{Static, VrfState, static_of}
use Rattle.mn_net.specs.Parts.{shown}
use Rattle.mn_net_laws.proofs.Asked.{asked_of}
use Rattle.mn_net.proofs.vrfs.site_with.Goals as goal

-- the site over which a VRF has the prefix
abbrev over : AddressBlock → VrfState → Option ℕ
over prefix vrf = option_map (λ (static : Static). static.site) (static_of prefix vrf.statics)

pub returns-in_err-held : goal.returns-in_err-held
returns-in_err-held c =
    ap (option_map (λ (site : SiteNo). site.0)) c.from_residual.ensures
    ∙ asked_of c.args.topology.now (shown c.args.routes.now) c.args.vrf.0 (over c.args.prefix) None c.in_err-held.ensures

pub returns-in-Some : goal.returns-in-Some
returns-in-Some c =
    ap (λ (site : SiteNo). Some site.0) c.site.ensures
    ∙ ap (option_map (λ (static : Static). static.site)) (sym c.in-Some.is ∙ c.static_of.ensures)
    ∙ asked_of c.args.topology.now (shown c.args.routes.now) c.args.vrf.0 (over c.args.prefix) (Some c.in_ok-held.held.now.vrf) c.in_ok-held.ensures

pub returns-in-None : goal.returns-in-None
returns-in-None c =
    ap (option_map (λ (static : Static). static.site)) (sym c.in-None.is ∙ c.static_of.ensures)
    ∙ asked_of c.args.topology.now (shown c.args.routes.now) c.args.vrf.0 (over c.args.prefix) (Some c.in_ok-held.held.now.vrf) c.in_ok-held.ensures
