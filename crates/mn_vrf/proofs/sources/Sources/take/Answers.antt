use Rattle.std.proofs.Common.{subst, sym, ◌∙◌, ap}
use Rattle.std.specs.List.{remove}
use Rattle.mn_base.specs.Ordered.{Ascends}
use Rattle.mn_base.proofs.Places.{ascends_without}
use Rattle.mn_base.proofs.Changes.{removed, stays}
use Rattle.mn_vrf.specs.Routes.{source_before}
use Rattle.mn_vrf.proofs.Orders.{source_order}
use Rattle.mn_vrf.proofs.sources.Sources.take.Goals as goal

pub invariant_of-self : goal.invariant_of-self
invariant_of-self c =
    let up = subst (Ascends source_before) c.self.view_is c.self.invariant in
    subst (Ascends source_before)
    (sym (c.remove.ensures.items ∙ ap (λ xs. remove xs c.place-at.result) c.self.view_is
    ∙ removed source_before source_order c.args.self.now c.args.source.now c.place-at.result up c.place-at.ensures
    (c.is_taken.ensures.taken c.if-is_taken.true)))
    (ascends_without source_before c.args.source.now c.args.self.now up)

pub returns-then-is_taken : goal.returns-then-is_taken
returns-then-is_taken c =
    rw (c.remove.ensures.items, c.self.view_is)
    (removed source_before source_order c.args.self.now c.args.source.now c.place-at.result
    (subst (Ascends source_before) c.self.view_is c.self.invariant) c.place-at.ensures (c.is_taken.ensures.taken c.if-is_taken.true))

pub returns-else-is_taken : goal.returns-else-is_taken
returns-else-is_taken c =
    stays source_before source_order c.args.self.now c.args.source.now c.place-at.result
    (subst (Ascends source_before) c.self.view_is c.self.invariant) c.place-at.ensures (c.is_taken.ensures.free c.if-is_taken.false)
