use Rattle.std.proofs.Common.{◌∙◌, sym, List}
use Rattle.std.specs.Prelude.{slice_get}
use Rattle.mn_prefix.specs.Prefix.{AddressBlock}
use Rattle.mn_vrf.specs.declared.source.Source.{Source}
use Rattle.mn_vrf.specs.Vrf.{Holding, heads}
use Rattle.mn_pe.proofs.Sound.{asks_none, asks_one, looked_up}
use Rattle.mn_pe.proofs.pe.Pe.held.Goals as goal

pub returns-in-None : goal.returns-in-None
returns-in-None c now_works =
    sym (asks_none c.args.vrf.0 (λ (h : Holding). slice_get (heads h.held) c.args.k) c.deref.result.now c.in-None.ensures)
    ∙ looked_up c.args.vrf.0 (λ (routes : List (AddressBlock × Source)). slice_get (heads routes) c.args.k) c.deref.ensures.value c.self.view_is
    c.self.invariant now_works

-- the VRF holds what it should
pub returns-in-Some : goal.returns-in-Some
returns-in-Some c now_works =
    c.held.ensures
    ∙ sym (asks_one c.args.vrf.0 (λ (h : Holding). slice_get (heads h.held) c.args.k) c.deref.result.now c.in-Some.found.now c.in-Some.ensures)
    ∙ looked_up c.args.vrf.0 (λ (routes : List (AddressBlock × Source)). slice_get (heads routes) c.args.k) c.deref.ensures.value c.self.view_is
    c.self.invariant now_works
