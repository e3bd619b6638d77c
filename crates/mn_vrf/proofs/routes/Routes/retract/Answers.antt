use Rattle.std.proofs.Common.{◌∙◌, ap, not, refl}
use Rattle.mn_base.specs.Ordered.{without_one}
use Rattle.mn_vrf.specs.Routes.{route_before}
use Rattle.mn_vrf.proofs.Calls.{Shows, copied_none, nothing_without, nothing_left, gone_without, put_without}
use Rattle.mn_vrf.proofs.routes.Routes.retract.Goals as goal
use Rattle.mn_vrf.proofs.routes.Routes.retract.Goals.{After-drop-sources-inside, After-drop-swap}

pub returns-then-is_none : goal.returns-then-is_none
returns-then-is_none c =
    nothing_without c.self.inside.table c.self.inside.prefixes.keys c.args.self.now c.args.prefix c.args.source.now c.self.invariant c.self.view_is
    (copied_none _ c.get.result _ c.get.ensures.value (c.is_none.ensures ∙ ap not c.if-is_none.true))

-- the last source of the prefix goes
gone : (c : After-drop-sources-inside) →
    Shows c.remove.new.self c.remove-then-is_empty.new.self.keys (without_one route_before (c.args.prefix, c.args.source.now) c.args.self.now)
gone c =
    gone_without c.self.inside.table c.swap-sources.new.table c.remove.new.self c.self.inside.prefixes.keys c.args.self.now c.args.prefix c.args.source.now
    c.swap-sources.result c.new.result (record { kept = c.self.invariant; view = c.self.view_is }) c.swap-sources.ensures.before
    c.swap-sources.ensures.changed c.self.inside.prefixes c.remove-then-is_empty.new.self refl c.remove.ensures.removed
    c.remove-then-is_empty.ensures.ordered c.remove-then-is_empty.ensures.updates
    (nothing_left c.take.new.self c.is_empty.result c.is_empty.ensures c.if-is_empty.true ∙ c.take.ensures)

pub invariant_of-self : goal.invariant_of-self
invariant_of-self c = (gone (goal.at.invariant_of-self c).After-drop-sources-inside).kept

pub returns-then-is_empty : goal.returns-then-is_empty
returns-then-is_empty c = (gone (goal.at.returns-then-is_empty c).After-drop-sources-inside).view

-- others are left
left : (c : After-drop-swap) →
    Shows c.swap.new.table c.self.inside.prefixes.keys (without_one route_before (c.args.prefix, c.args.source.now) c.args.self.now)
left c =
    put_without c.self.inside.table c.swap-sources.new.table c.swap.new.table c.self.inside.prefixes.keys c.args.self.now c.args.prefix c.args.source.now
    c.swap-sources.result c.new.result (record { kept = c.self.invariant; view = c.self.view_is }) c.swap-sources.ensures.before
    c.swap-sources.ensures.changed c.take.new.self c.swap.ensures.changed c.take.ensures c.is_empty.result c.is_empty.ensures c.if-is_empty.false

pub invariant_of-self-else-is_empty : goal.invariant_of-self-else-is_empty
invariant_of-self-else-is_empty c = (left (goal.at.invariant_of-self-else-is_empty c).After-drop-swap).kept

pub returns-else-is_empty : goal.returns-else-is_empty
returns-else-is_empty c = (left (goal.at.returns-else-is_empty c).After-drop-swap).view
