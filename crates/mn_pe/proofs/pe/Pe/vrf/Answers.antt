use Rattle.std.proofs.Common.{◌∙◌, ap, Some}
use Rattle.mn_vrf.specs.Vrf.{Holding, VrfState}
use Rattle.mn_pe.specs.Pe.{PeNow, numbered, found_in}
use Rattle.mn_pe.proofs.Sound.{asks_each, by_vrfs}
use Rattle.mn_pe.proofs.pe.Pe.vrf.Goals as goal

pub returns : goal.returns
returns c =
    asks_each c.args.number.0 (λ (holding : Holding). holding.vrf) c.deref.result.now _ c.vrf_in.result c.vrf_in.ensures
    ∙ ap (numbered c.args.number.0 (λ (holding : Holding). Some holding.vrf)) c.deref.ensures.value
    ∙ by_vrfs c.args.number.0 (λ (state : VrfState). Some state) c.self.inside.vrfs.items
    ∙ ap (λ (p : PeNow). found_in c.args.number.0 (λ (state : VrfState). Some state) p.edge.vrfs) c.self.view_is
