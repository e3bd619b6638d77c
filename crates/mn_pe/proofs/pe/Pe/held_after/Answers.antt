use Rattle.std.proofs.Common.{ℕ, ◌≡◌, ◌+◌, List, ◌∙◌, sym, subst}
use Rattle.std.specs.Prelude.{slice_get}
use Rattle.mn_prefix.specs.Prefix.{AddressBlock}
use Rattle.mn_vrf.specs.declared.source.Source.{Source}
use Rattle.mn_vrf.specs.Vrf.{Holding, VrfState, heads, IsHeldAt}
use Rattle.mn_pe.specs.Held.{held_by}
use Rattle.mn_pe.specs.Pe.{found_in}
use Rattle.mn_pe.proofs.Sound.{asks_none, asks_one, looked_up}
use Rattle.mn_pe.proofs.pe.Pe.held_after.Goals as goal

pub returns-in-None : goal.returns-in-None
returns-in-None c now_works k is =
    sym (asks_none c.args.vrf.0 (λ (h : Holding). slice_get (heads h.held) (k + 1)) c.deref.result.now c.in-None.ensures)
    ∙ looked_up c.args.vrf.0 (λ (routes : List (AddressBlock × Source)). slice_get (heads routes) (k + 1)) c.deref.ensures.value c.self.view_is c.self.invariant
    now_works

-- the VRF holds what it should
pub returns-in-Some : goal.returns-in-Some
returns-in-Some c now_works k is =
    let at : (n : ℕ) → slice_get (heads c.in-Some.found.now.held) n
    ≡ found_in c.args.vrf.0 (λ (state : VrfState). slice_get (heads (held_by c.args.self.now.edge state)) n) c.args.self.now.edge.vrfs =
    λ n. sym (asks_one c.args.vrf.0 (λ (h : Holding). slice_get (heads h.held) n) c.deref.result.now c.in-Some.found.now c.in-Some.ensures)
    ∙ looked_up c.args.vrf.0 (λ (routes : List (AddressBlock × Source)). slice_get (heads routes) n) c.deref.ensures.value c.self.view_is c.self.invariant
    now_works in
    c.after.ensures k (subst (IsHeldAt c.args.last) (sym (at k)) is) ∙ at (k + 1)
