use Rattle.std.proofs.Common.{◌∙◌, sym}
use Rattle.mn_prefix.specs.Table.{longest_match}
use Rattle.mn_vrf.specs.Vrf.{Holding}
use Rattle.mn_pe.proofs.Sound.{asks_none, asks_one, looked_up}
use Rattle.mn_pe.proofs.pe.Pe.lookup.Goals as goal

pub returns-in-None : goal.returns-in-None
returns-in-None c now_works =
    sym (asks_none c.args.vrf.0 (λ (h : Holding). longest_match c.args.address h.held) c.deref.result.now c.in-None.ensures)
    ∙ looked_up c.args.vrf.0 (longest_match c.args.address) c.deref.ensures.value c.self.view_is c.self.invariant now_works

-- the VRF holds what it should
pub returns-in-Some : goal.returns-in-Some
returns-in-Some c now_works =
    c.lookup.ensures
    ∙ sym (asks_one c.args.vrf.0 (λ (h : Holding). longest_match c.args.address h.held) c.deref.result.now c.in-Some.found.now c.in-Some.ensures)
    ∙ looked_up c.args.vrf.0 (longest_match c.args.address) c.deref.ensures.value c.self.view_is c.self.invariant now_works
