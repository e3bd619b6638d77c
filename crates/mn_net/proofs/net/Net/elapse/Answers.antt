use Rattle.std.proofs.Common.{◌+◌, ◌≤◌, ◌^◌, [], sym, subst}
use Rattle.mn_topo.specs.declared.steps.Step.TheVariants as step
use Rattle.mn_net_laws.proofs.Moves.{net_may, net_done, as_it_is, clock_fits}
use Rattle.mn_net_laws.proofs.Turns.{elapse_done, in_order}
use Rattle.mn_net.proofs.Elapsed.{elapse_at}
use Rattle.mn_net.proofs.net.Net.elapse.Goals as goal

pub expire-requires-clause-clock : goal.expire-requires-clause-clock
expire-requires-clause-clock c =
    let may = net_may _ _ (step.Tick c.args.ticks) [] c.self.view_is c.requires.may in
    subst (λ n. c.self.inside.tick + n ≤ 2 ^ 63) (sym c.from.ensures) (clock_fits _ (step.Tick c.args.ticks) [] (c.self.invariant may.works) may)

pub expire-requires-clause-order : goal.expire-requires-clause-order
expire-requires-clause-order c =
    let may = net_may _ _ (step.Tick c.args.ticks) [] c.self.view_is c.requires.may in
    in_order _ c.begin.new.self c.laws.ensures (c.self.invariant may.works) c.begin.ensures.begun

pub invariant_of-self-2 : goal.invariant_of-self-2
invariant_of-self-2 c = λ works.
    let may = net_may _ _ (step.Tick c.args.ticks) [] c.self.view_is c.requires.may in
    (as_it_is _ _ (step.Tick c.args.ticks) [] c.reserve_entry.new.journal.items c.push_reserved.new.self.items _
    (elapse_at _ c.begin.new.self c.expire.new.self c.args.ticks c.from.result c.from.ensures
    (elapse_done _ c.begin.new.self c.expire.new.self c.args.ticks c.a_transport_goes_on_as_it_was.ensures
    c.routes_stay_as_they_were.ensures c.laws.ensures (c.self.invariant may.works) may c.begin.ensures.begun)
    c.expire.ensures.moved c.expire.ensures.left c.expire.ensures.counts) may.works c.reserve_entry.ensures.items c.push_reserved.ensures.items).is

pub returns-clause-done : goal.returns-clause-done
returns-clause-done c =
    let may = net_may _ _ (step.Tick c.args.ticks) [] c.self.view_is c.requires.may in
    net_done _ _ _ (step.Tick c.args.ticks) [] c.self.view_is
    (as_it_is _ _ (step.Tick c.args.ticks) [] c.reserve_entry.new.journal.items c.push_reserved.new.self.items _
    (elapse_at _ c.begin.new.self c.expire.new.self c.args.ticks c.from.result c.from.ensures
    (elapse_done _ c.begin.new.self c.expire.new.self c.args.ticks c.a_transport_goes_on_as_it_was.ensures
    c.routes_stay_as_they_were.ensures c.laws.ensures (c.self.invariant may.works) may c.begin.ensures.begun)
    c.expire.ensures.moved c.expire.ensures.left c.expire.ensures.counts) may.works c.reserve_entry.ensures.items c.push_reserved.ensures.items)
