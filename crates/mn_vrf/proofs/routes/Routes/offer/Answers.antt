use Rattle.std.proofs.Common.{◌∙◌, ap, not}
use Rattle.mn_base.specs.Ordered.{with_one}
use Rattle.mn_vrf.specs.Routes.{route_before}
use Rattle.mn_vrf.proofs.Calls.{IsPut, none_of_it, copied_none, put_either}
use Rattle.mn_vrf.proofs.routes.Routes.offer.Goals as goal
use Rattle.mn_vrf.proofs.routes.Routes.offer.Goals.{After-drop-swap}

pub begin-requires : goal.begin-requires
begin-requires c =
    none_of_it c.self.inside.table c.self.inside.prefixes.keys c.args.self.now c.args.prefix c.self.invariant c.self.view_is
    (copied_none _ c.get.result _ c.get.ensures.value (c.is_none.ensures ∙ ap not c.if-is_none.true))

-- the sources stand in the table again, with the new one or as they were
put : (c : After-drop-swap) → IsPut c.swap.new.table c.self.inside.prefixes.keys
    (with_one route_before (c.args.prefix, c.args.source) c.args.self.now) c.args.self.now c.put-put.result
put c =
    put_either c.self.inside.table c.swap-sources.new.table c.swap.new.table c.self.inside.prefixes.keys c.args.self.now c.args.prefix c.args.source
    c.swap-sources.result c.new.result (record { kept = c.self.invariant; view = c.self.view_is }) c.swap-sources.ensures.before
    c.swap-sources.ensures.changed c.put-put.new.self c.swap.ensures.changed c.put-put.result c.put-put.ensures.ok c.put-put.ensures.err

pub invariant_of-self : goal.invariant_of-self
invariant_of-self c = (put (goal.at.invariant_of-self c).After-drop-swap).kept

pub returns-clause-ok : goal.returns-clause-ok
returns-clause-ok c = (put (goal.at.returns-clause-ok c).After-drop-swap).ok

pub returns-clause-err : goal.returns-clause-err
returns-clause-err c = (put (goal.at.returns-clause-err c).After-drop-swap).err
