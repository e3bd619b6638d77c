use Rattle.std.proofs.Common.{◌≡◌, ℕ, [], List, length, ◌∙◌, ap}
use Rattle.std.specs.Prelude.{slice_set, slice_index_or}
use Rattle.std.specs.List.{range_with_len}
use Rattle.std.proofs.lemmas.List.{get_or_default, get_or-set_same, set-set}
use Rattle.mn_base.specs.declared.numbers.Rt.{Rt}
use Rattle.mn_base.specs.declared.numbers.VrfNo.{VrfNo}
use Rattle.mn_prefix.specs.Prefix.{AddressBlock}
use Rattle.mn_vrf.specs.declared.source.Source.{Source}
use Rattle.mn_vrf.specs.Vrf.{VrfState, Holding}
use Rattle.mn_pe.specs.Pe.{told}
use Rattle.mn_pe.specs.Switched.{after_vrfs, after_all, importing}
use Rattle.mn_pe.proofs.Places.{told_stays}
use Rattle.mn_pe.proofs.switching.import_at.Goals as goal

-- the VRF holds what its routes make of what it held
pub returns : goal.returns
returns c = λ d.
    let old : List Holding = c.args.vrfs.now.items in
    let at : ℕ = c.args.at in
    let one : Holding = slice_index_or old at d in
    let first : c.index_mut.result.now ≡ one = c.index_mut.ensures.value ∙ get_or_default old at c.index_mut.result.now d c.requires.there in
    let bare : Holding = c.take_held-held.new.self in
    let bare_is : bare ≡ record one { held = [] } = c.take_held-held.ensures.left ∙ ap (λ (h : Holding). record h { held = [] }) first in
    let rest : List Holding = slice_set old at bare in
    let is_bare : (x : Holding) → x ≡ slice_index_or rest at x → x ≡ record one { held = [] } =
    λ x e. e ∙ get_or-set_same old at bare x c.requires.there ∙ bare_is in
    let number : c.number-number.result.0 ≡ one.vrf.number =
    ap (λ (n : VrfNo). n.0) c.number-number.ensures ∙ ap (λ (h : Holding). h.vrf.number) (is_bare c.index.result.now c.index.ensures) in
    let imports : c.imports.result.now ≡ one.vrf.imports =
    c.imports.ensures ∙ ap (λ (h : Holding). h.vrf.imports) (is_bare c.index-2.result.now c.index-2.ensures) in
    let imports_again : c.imports-2.result.now ≡ one.vrf.imports =
    c.imports-2.ensures ∙ ap (λ (h : Holding). h.vrf.imports) (is_bare c.index-3.result.now c.index-3.ensures) in
    let told_is : told c.deref.result.now ≡ told old =
    ap told c.deref.ensures.value ∙ told_stays old at d bare (ap (λ (h : Holding). h.vrf) bare_is) in
    let held : c.take_held-held.result ≡ one.held = c.take_held-held.ensures.all ∙ ap (λ (h : Holding). h.held) first in
    let near : ℕ → List Rt → List (AddressBlock × Source) → List VrfState → List (AddressBlock × Source) =
    λ n is ks us. after_vrfs c.args.on c.args.target c.args.labels.now n is ks us in
    let far : List Rt → List (AddressBlock × Source) → List (AddressBlock × Source) =
    λ is ks. after_all c.args.on c.args.target c.args.loopbacks.now c.args.heard.now is ks (range_with_len 0 (length c.args.heard.now)) in
    let near_is : c.turn_near.new.held ≡ near one.vrf.number one.vrf.imports one.held (told old) =
    c.in_ok-turn_near.ensures
    ∙ ap (λ n. near n c.imports.result.now c.take_held-held.result (told c.deref.result.now)) number
    ∙ ap (λ is. near one.vrf.number is c.take_held-held.result (told c.deref.result.now)) imports
    ∙ ap (λ ks. near one.vrf.number one.vrf.imports ks (told c.deref.result.now)) held
    ∙ ap (near one.vrf.number one.vrf.imports one.held) told_is in
    let far_is : c.turn_heard.new.held ≡ far one.vrf.imports (near one.vrf.number one.vrf.imports one.held (told old)) =
    c.in_ok-turn_heard.ensures ∙ ap (λ is. far is c.turn_near.new.held) imports_again ∙ ap (far one.vrf.imports) near_is in
    let made : c.hold.new.self ≡ importing c.args.on c.args.target c.args.labels.now c.args.loopbacks.now c.args.heard.now (told old) one =
    c.hold.ensures
    ∙ ap (λ (h : Holding). record h { held = c.turn_heard.new.held }) (is_bare c.index_mut-2.result.now c.index_mut-2.ensures.value)
    ∙ ap (λ ks. record one { held = ks }) far_is in
    ap (slice_set rest at) made
    ∙ set-set old at bare (importing c.args.on c.args.target c.args.labels.now c.args.loopbacks.now c.args.heard.now (told old) one)
