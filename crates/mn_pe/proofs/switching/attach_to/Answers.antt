use Rattle.std.proofs.Common.{◌≡◌, List, Option, Some, None, sym, ◌∙◌, ap}
use Rattle.std.specs.Prelude.{slice_set, slice_index_or}
use Rattle.std.proofs.lemmas.List.{get_or_default, set-get_or}
use Rattle.mn_vrf.specs.declared.source.Source.{Source}
use Rattle.mn_vrf.specs.Vrf.{VrfState, Holding}
use Rattle.mn_pe.specs.Switched.{source_for, turning_over}
use Rattle.mn_pe.proofs.Places.{on_ok}
use Rattle.mn_pe.proofs.switching.attach_to.Goals as goal

-- the VRF is to hold none of them
pub returns-in-None : goal.returns-in-None
returns-in-None c = λ d.
    let old : List Holding = c.args.vrfs.now.items in
    let one : Holding = slice_index_or old c.args.to d in
    let teller : VrfState = (slice_index_or old c.args.at d).vrf in
    let first : c.index.result.now ≡ one = c.index.ensures ∙ get_or_default old c.args.to c.index.result.now d c.requires.here in
    let other : c.index-2.result.now.vrf ≡ teller =
    ap (λ (h : Holding). h.vrf) (c.index-2.ensures ∙ get_or_default old c.args.at c.index-2.result.now d c.requires.there) in
    let is : source_for one.vrf teller c.args.site.0 ≡ None =
    sym (c.source_for.ensures ∙ ap (λ (h : Holding). source_for h.vrf c.index-2.result.now.vrf c.args.site.0) first
    ∙ ap (λ u. source_for one.vrf u c.args.site.0) other) ∙ c.in-None.is in
    sym (ap (λ (o : Option Source). slice_set old c.args.to (turning_over c.args.on c.args.site.0 teller o one)) is ∙ set-get_or old c.args.to d)

-- it is to hold them
pub returns-in-Some : goal.returns-in-Some
returns-in-Some c =
    let old : List Holding = c.args.vrfs.now.items in
    on_ok c.attach_from.result _ _ (λ made d.
    let one : Holding = slice_index_or old c.args.to d in
    let teller : VrfState = (slice_index_or old c.args.at d).vrf in
    let first : c.index.result.now ≡ one = c.index.ensures ∙ get_or_default old c.args.to c.index.result.now d c.requires.here in
    let other : c.index-2.result.now.vrf ≡ teller =
    ap (λ (h : Holding). h.vrf) (c.index-2.ensures ∙ get_or_default old c.args.at c.index-2.result.now d c.requires.there) in
    let is : source_for one.vrf teller c.args.site.0 ≡ Some c.in-Some.source =
    sym (c.source_for.ensures ∙ ap (λ (h : Holding). source_for h.vrf c.index-2.result.now.vrf c.args.site.0) first
    ∙ ap (λ u. source_for one.vrf u c.args.site.0) other) ∙ c.in-Some.is in
    made d ∙ ap (λ (o : Option Source). slice_set old c.args.to (turning_over c.args.on c.args.site.0 teller o one)) (sym is)) c.attach_from.ensures
