use Rattle.std.proofs.Common.{[], ◌+◌, refl, arith}
use Rattle.mn_topo.specs.declared.steps.Step.TheVariants as step
use Rattle.mn_net_laws.proofs.Moves.{net_may, net_done, as_it_is}
use Rattle.mn_net_laws.proofs.Turns.{link_may, route_may}
use Rattle.mn_net_laws.proofs.Sites.{detach_done}
use Rattle.mn_net.proofs.Few.{later_fits}
use Rattle.mn_net.proofs.Views.{finds}
use Rattle.mn_net.proofs.net.Net.detach.Goals as goal

pub detach-requires : goal.detach-requires
detach-requires c =
    let its = finds _ _ (step.Detach c.args.site) [] c.self.view_is c.laws.ensures c.self.invariant c.requires.may in
    record { tick = its.tick; numbers = its.numbers; messages = its.routes; may = route_may _ (step.Detach c.args.site) its.is its.may }

pub detach-requires-2 : goal.detach-requires-2
detach-requires-2 c =
    let its = finds _ _ (step.Detach c.args.site) [] c.self.view_is c.laws.ensures c.self.invariant c.requires.may in
    record { may = link_may _ (step.Detach c.args.site) c.laws.ensures its.is its.may refl }

pub overflow_add-self : goal.overflow_add-self
overflow_add-self c =
    let may = net_may _ _ (step.Detach c.args.site) [] c.self.view_is c.requires.may in
    let few = later_fits _ _ (step.Detach c.args.site) [] c.laws.ensures
    (detach_done _ c.args.site c.detach-2.new.self c.detach.new.self c.begin.new.self c.in_ok-more.more (c.self.inside.made + c.in_ok-more.more)
    c.laws.ensures (c.self.invariant may.works) may c.detach-2.ensures.goes c.detach-2.ensures.notices c.detach-2.ensures.messages
    c.in_ok-more.ensures.did c.begin.ensures.begun refl) in
    omega (arith, few)

pub invariant_of-self-2 : goal.invariant_of-self-2
invariant_of-self-2 c = λ works.
    let may = net_may _ _ (step.Detach c.args.site) [] c.self.view_is c.requires.may in
    (as_it_is _ _ (step.Detach c.args.site) [] c.reserve_entry.new.journal.items c.push_reserved.new.self.items _
    (detach_done _ c.args.site c.detach-2.new.self c.detach.new.self c.begin.new.self c.in_ok-more.more (c.self.inside.made + c.in_ok-more.more)
    c.laws.ensures (c.self.invariant may.works) may c.detach-2.ensures.goes c.detach-2.ensures.notices c.detach-2.ensures.messages
    c.in_ok-more.ensures.did c.begin.ensures.begun refl) may.works c.reserve_entry.ensures.items c.push_reserved.ensures.items).is

pub returns-clause-done : goal.returns-clause-done
returns-clause-done c =
    let may = net_may _ _ (step.Detach c.args.site) [] c.self.view_is c.requires.may in
    net_done _ _ _ (step.Detach c.args.site) [] c.self.view_is
    (as_it_is _ _ (step.Detach c.args.site) [] c.reserve_entry.new.journal.items c.push_reserved.new.self.items _
    (detach_done _ c.args.site c.detach-2.new.self c.detach.new.self c.begin.new.self c.in_ok-more.more (c.self.inside.made + c.in_ok-more.more)
    c.laws.ensures (c.self.invariant may.works) may c.detach-2.ensures.goes c.detach-2.ensures.notices c.detach-2.ensures.messages
    c.in_ok-more.ensures.did c.begin.ensures.begun refl) may.works c.reserve_entry.ensures.items c.push_reserved.ensures.items)
