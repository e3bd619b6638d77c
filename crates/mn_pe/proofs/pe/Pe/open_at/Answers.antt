use Rattle.std.proofs.Common.{◌∙◌, sym, List, filter}
use Rattle.mn_prefix.specs.Prefix.{AddressBlock}
use Rattle.mn_vrf.specs.declared.source.Source.{Source}
use Rattle.mn_prefix.specs.Table.{first_of}
use Rattle.mn_vrf.specs.Routes.{is_open, sources_of}
use Rattle.mn_vrf.specs.Vrf.{Holding}
use Rattle.mn_pe.proofs.Sound.{asks_none, asks_one, looked_up}
use Rattle.mn_pe.proofs.pe.Pe.open_at.Goals as goal

pub returns-in-None : goal.returns-in-None
returns-in-None c now_works =
    sym (asks_none c.args.vrf.0 (λ (h : Holding). first_of (filter (is_open c.args.ways.now) (sources_of c.args.prefix h.held))) c.deref.result.now
    c.in-None.ensures)
    ∙ looked_up c.args.vrf.0 (λ (routes : List (AddressBlock × Source)). first_of (filter (is_open c.args.ways.now) (sources_of c.args.prefix routes)))
    c.deref.ensures.value c.self.view_is c.self.invariant now_works

-- the VRF holds what it should
pub returns-in-Some : goal.returns-in-Some
returns-in-Some c now_works =
    c.open_at.ensures
    ∙ sym (asks_one c.args.vrf.0 (λ (h : Holding). first_of (filter (is_open c.args.ways.now) (sources_of c.args.prefix h.held))) c.deref.result.now
    c.in-Some.found.now c.in-Some.ensures)
    ∙ looked_up c.args.vrf.0 (λ (routes : List (AddressBlock × Source)). first_of (filter (is_open c.args.ways.now) (sources_of c.args.prefix routes)))
    c.deref.ensures.value c.self.view_is c.self.invariant now_works
