use Rattle.std.proofs.Common.{◌≡◌, ◌<◌, ℕ, List, length, arith, refl, sym, ◌∙◌, ap, subst}
use Rattle.std.specs.Prelude.{slice_index_or}
use Rattle.std.proofs.lemmas.List.{get_or_default}
use Rattle.mn_base.specs.declared.numbers.Rt.{Rt}
use Rattle.mn_base.specs.declared.numbers.VrfNo.{VrfNo}
use Rattle.mn_targets.specs.Targets.{meet}
use Rattle.mn_vrf.specs.Vrf.{VrfState, Holding}
use Rattle.mn_pe.specs.Changes.{with_changes, spread_by, spreading}
use Rattle.mn_pe.proofs.Places.{same_teller, one_more}
use Rattle.mn_pe.proofs.Offers.{set_length}
use Rattle.mn_pe.proofs.spreading.spread.Goals as goal

-- it came to one VRF more
pub loop-i-preserved : goal.loop-i-preserved
loop-i-preserved c = record {
  so_far = λ d.
      let i : ℕ = c.loop-i.i in
      let at : ℕ = c.args.at in
      let old : List Holding = c.args.vrfs.now.items in
      let now : List Holding = c.loop-i.vrfs.items in
      let teller : VrfState = (slice_index_or old at d).vrf in
      let f : Holding → Holding = spreading teller c.args.on c.args.route in
      let there : i < length old = grind (arith, c.loop-i-test.true, c.loop-i.auto.i-end, c.len-i-end.ensures) in
      let there_now : i < length now = subst (λ n. i < n) (sym c.loop-i.invariant.as_many) there in
      let at_now : at < length now = subst (λ n. at < n) (sym c.loop-i.invariant.as_many) c.requires.there in
      let one : Holding = c.index_mut.result.now in
      let number_is : c.number-teller.result.0 ≡ teller.number =
      ap (λ (n : VrfNo). n.0) c.number-teller.ensures ∙ ap (λ (h : Holding). h.vrf.number)
      (c.index.ensures ∙ get_or_default old at c.index.result.now d c.requires.there) in
      let same : (slice_index_or now at d).vrf ≡ teller =
      same_teller (λ u h. spreading u c.args.on c.args.route h) (λ u h. refl) old now at i d there (c.loop-i.invariant.so_far d) in
      let exports_are : c.as_slice.result.now ≡ teller.exports =
      c.as_slice.ensures.all ∙ c.exports.ensures
      ∙ ap (λ (h : Holding). h.vrf.exports) (c.index-in-loop-i-2.ensures ∙ get_or_default now at c.index-in-loop-i-2.result.now d at_now)
      ∙ ap (λ (v : VrfState). v.exports) same in
      let imports_are : c.imports.result.now ≡ one.vrf.imports =
      c.imports.ensures
      ∙ ap (λ (h : Holding). h.vrf.imports) (c.index-in-loop-i.ensures ∙ get_or_default now i c.index-in-loop-i.result.now one there_now
      ∙ sym c.index_mut.ensures.value) in
      let made : c.spread_one.new.vrf ≡ f one =
      c.in_ok-spread_one.ensures.ok
      ∙ ap (λ n. with_changes (spread_by n c.meets-meets.result c.args.on c.args.route one.vrf) one) number_is
      ∙ ap (λ b. with_changes (spread_by teller.number b c.args.on c.args.route one.vrf) one)
      (c.meets-meets.ensures.test ∙ ap (λ (es : List Rt). meet es c.imports.result.now) exports_are ∙ ap (meet teller.exports) imports_are) in
      one_more (λ u h. spreading u c.args.on c.args.route h) (λ u h. refl) old now at i d there (c.loop-i.invariant.so_far d) c.spread_one.new.vrf one
      (made ∙ ap f c.index_mut.ensures.value);
  as_many = set_length c.loop-i.vrfs.items c.loop-i.i c.spread_one.new.vrf ∙ c.loop-i.invariant.as_many;
}
