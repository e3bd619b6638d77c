use Rattle.std.proofs.Common.{◌≡◌, None, Some, sym, ◌∙◌, ap}
use Rattle.std.specs.Prelude.{slice_index_or}
use Rattle.mn_base.specs.declared.numbers.SiteNo.{SiteNo}
use Rattle.mn_pe.proofs.OneStatic.{none_is, some_is, none_spread, one_spread}
use Rattle.mn_pe.proofs.Places.{on_ok}
use Rattle.mn_pe.proofs.spreading.spread_if.Goals as goal

pub returns-then-is_none : goal.returns-then-is_none
returns-then-is_none c =
    let label : slice_index_or c.args.labels.now c.args.route.site None ≡ None =
    ap (λ (s : SiteNo). slice_index_or c.args.labels.now s.0 None) (sym c.site.ensures) ∙ sym c.label_at.ensures
    ∙ none_is c.label_at.result c.is_none.result c.is_none.ensures c.if-is_none.true in
    λ d. none_spread (slice_index_or c.args.vrfs.now.items c.args.at d).vrf c.args.on c.args.route
    (slice_index_or c.args.labels.now c.args.route.site None) c.args.vrfs.now.items label

pub returns : goal.returns
returns c =
    let found = some_is c.label_at.result c.is_none.result c.is_none.ensures c.if-is_none.false in
    let label : slice_index_or c.args.labels.now c.args.route.site None ≡ Some found.0 =
    ap (λ (s : SiteNo). slice_index_or c.args.labels.now s.0 None) (sym c.site.ensures) ∙ sym c.label_at.ensures ∙ found.1 in
    on_ok c.spread.result _ _ (λ made d. made d ∙ one_spread (slice_index_or c.args.vrfs.now.items c.args.at d).vrf c.args.on c.args.route
    (slice_index_or c.args.labels.now c.args.route.site None) found.0 c.args.vrfs.now.items label) c.spread.ensures.ok
