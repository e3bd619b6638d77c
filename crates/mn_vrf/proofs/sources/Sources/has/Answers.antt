use Rattle.std.proofs.Common.{◌≡◌, subst, sym, ◌∙◌, ap}
use Rattle.std.specs.Prelude.{slice_index_or}
use Rattle.mn_base.specs.Ordered.{Ascends}
use Rattle.mn_base.proofs.Places.{one_absent, one_held}
use Rattle.mn_vrf.specs.declared.source.Source.{Source as From}
use Rattle.mn_vrf.specs.Routes.{source_before, same_source, is_source}
use Rattle.mn_vrf.proofs.Orders.{source_order}
use Rattle.mn_vrf.proofs.sources.Sources.has.Goals as goal

-- what stands in its place
pub returns-then-is_taken : goal.returns-then-is_taken
returns-then-is_taken c =
    let found : c.index.result.now ≡ slice_index_or c.args.self.now c.place-at.result c.index.result.now = rw (← c.self.view_is) c.index.ensures in
    c.are_same.ensures
    ∙ ap (λ (y : From). same_source c.args.source.now y) found
    ∙ sym (ap (is_source c.args.source.now)
    (one_held source_before source_order c.args.self.now (subst (Ascends source_before) c.self.view_is c.self.invariant) c.args.source.now
    c.place-at.result c.place-at.ensures c.index.result.now (c.is_taken.ensures.taken c.if-is_taken.true)))

-- nothing stands there
pub returns-else-is_taken : goal.returns-else-is_taken
returns-else-is_taken c =
    c.if-is_taken.false
    ∙ sym (ap (is_source c.args.source.now)
    (one_absent source_before source_order c.args.self.now (subst (Ascends source_before) c.self.view_is c.self.invariant) c.args.source.now
    c.place-at.result c.place-at.ensures (c.is_taken.ensures.free c.if-is_taken.false)))
