use Rattle.std.proofs.Common.{[], ◌+◌, ◌∙◌, refl, arith}
use Rattle.mn_net_laws.proofs.Moves.{net_may, net_done, as_it_is}
use Rattle.mn_net_laws.proofs.Turns.{route_may, told_done, may_count}
use Rattle.mn_net.specs.Turns.{route_step}
use Rattle.mn_net.proofs.Few.{later_fits}
use Rattle.mn_net.proofs.Views.{finds}
use Rattle.mn_net.proofs.OfTurns.{of_routes, as_said, counted_as, counts_as}
use Rattle.mn_net.proofs.net.Net.turn_route.Goals as goal

pub act-requires : goal.act-requires
act-requires c =
    let its = finds _ _ (route_step c.args.turn) [] c.self.view_is c.laws.ensures c.self.invariant c.requires.may in
    record { tick = its.tick; numbers = its.numbers; messages = its.routes; may = route_may _ (route_step c.args.turn) its.is its.may }

pub count_static-requires : goal.count_static-requires
count_static-requires c =
    let may = net_may _ _ (route_step c.args.turn) [] c.self.view_is c.requires.may in
    counted_as _ c.step-step.ensures (may_count _ (route_step c.args.turn) c.laws.ensures (c.self.invariant may.works) may)

pub overflow_add-self : goal.overflow_add-self
overflow_add-self c =
    let may = net_may _ _ (route_step c.args.turn) [] c.self.view_is c.requires.may in
    let few = later_fits _ _ (route_step c.args.turn) [] c.laws.ensures
    (told_done _ (route_step c.args.turn) c.act.new.routes c.begin.new.self c.count_static.new.tally c.in_ok-more.more (c.self.inside.made + c.in_ok-more.more)
    c.a_transport_goes_on_as_it_was.ensures c.laws.ensures
    (c.self.invariant may.works) may (of_routes c.args.turn).0 (of_routes c.args.turn).1 c.in_ok-more.ensures.did c.begin.ensures.begun refl
    (c.count_static.ensures ∙ counts_as _ c.step-step.ensures)) in
    omega (arith, few)

pub invariant_of-self-2 : goal.invariant_of-self-2
invariant_of-self-2 c = λ works.
    let may = net_may _ _ (route_step c.args.turn) [] c.self.view_is c.requires.may in
    (as_it_is _ _ (route_step c.args.turn) [] c.reserve_entry.new.journal.items c.push_reserved.new.self.items _
    (told_done _ (route_step c.args.turn) c.act.new.routes c.begin.new.self c.count_static.new.tally c.in_ok-more.more (c.self.inside.made + c.in_ok-more.more)
    c.a_transport_goes_on_as_it_was.ensures c.laws.ensures
    (c.self.invariant may.works) may (of_routes c.args.turn).0 (of_routes c.args.turn).1 c.in_ok-more.ensures.did c.begin.ensures.begun refl
    (c.count_static.ensures ∙ counts_as _ c.step-step.ensures)) may.works c.reserve_entry.ensures.items (c.push_reserved.ensures.items
    ∙ as_said _ _ _ c.step-step.ensures)).is

pub returns-clause-done : goal.returns-clause-done
returns-clause-done c =
    let may = net_may _ _ (route_step c.args.turn) [] c.self.view_is c.requires.may in
    net_done _ _ _ (route_step c.args.turn) [] c.self.view_is
    (as_it_is _ _ (route_step c.args.turn) [] c.reserve_entry.new.journal.items c.push_reserved.new.self.items _
    (told_done _ (route_step c.args.turn) c.act.new.routes c.begin.new.self c.count_static.new.tally c.in_ok-more.more (c.self.inside.made + c.in_ok-more.more)
    c.a_transport_goes_on_as_it_was.ensures c.laws.ensures
    (c.self.invariant may.works) may (of_routes c.args.turn).0 (of_routes c.args.turn).1 c.in_ok-more.ensures.did c.begin.ensures.begun refl
    (c.count_static.ensures ∙ counts_as _ c.step-step.ensures)) may.works c.reserve_entry.ensures.items (c.push_reserved.ensures.items
    ∙ as_said _ _ _ c.step-step.ensures))
