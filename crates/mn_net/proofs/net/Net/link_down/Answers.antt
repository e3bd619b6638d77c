use Rattle.std.proofs.Common.{[], ◌+◌, refl, arith}
use Rattle.mn_topo.specs.declared.steps.Step.TheVariants as step
use Rattle.mn_net_laws.proofs.Moves.{net_may, net_done, as_it_is}
use Rattle.mn_net_laws.proofs.Turns.{link_may, down_done}
use Rattle.mn_net.proofs.Few.{later_fits}
use Rattle.mn_net.proofs.Views.{finds}
use Rattle.mn_net.proofs.net.Net.link_down.Goals as goal

pub link_down-requires : goal.link_down-requires
link_down-requires c =
    let its = finds _ _ (step.LinkDown c.args.link) [] c.self.view_is c.laws.ensures c.self.invariant c.requires.may in
    record {
      tick = its.tick;
      numbers = its.numbers;
      changes = its.changes c.args.link.0;
      notices = its.notices;
      messages = its.messages;
      may = link_may _ (step.LinkDown c.args.link) c.laws.ensures its.is its.may refl;
    }

pub overflow_add-self : goal.overflow_add-self
overflow_add-self c =
    let may = net_may _ _ (step.LinkDown c.args.link) [] c.self.view_is c.requires.may in
    let few = later_fits _ _ (step.LinkDown c.args.link) [] c.laws.ensures
    (down_done _ c.args.link c.link_down.new.self c.link_down-2.new.self c.in_ok-more.more (c.self.inside.made + c.in_ok-more.more)
    c.routes_stay_as_they_were.ensures
    c.laws.ensures
    (c.self.invariant may.works) may c.in_ok-more.ensures.did c.link_down-2.ensures.moved c.link_down-2.ensures.left c.link_down-2.ensures.counts
    refl) in
    omega (arith, few)

pub invariant_of-self-2 : goal.invariant_of-self-2
invariant_of-self-2 c = λ works.
    let may = net_may _ _ (step.LinkDown c.args.link) [] c.self.view_is c.requires.may in
    (as_it_is _ _ (step.LinkDown c.args.link) [] c.reserve_entry.new.journal.items c.push_reserved.new.self.items _
    (down_done _ c.args.link c.link_down.new.self c.link_down-2.new.self c.in_ok-more.more (c.self.inside.made + c.in_ok-more.more)
    c.routes_stay_as_they_were.ensures
    c.laws.ensures
    (c.self.invariant may.works) may c.in_ok-more.ensures.did c.link_down-2.ensures.moved c.link_down-2.ensures.left c.link_down-2.ensures.counts
    refl) may.works c.reserve_entry.ensures.items c.push_reserved.ensures.items).is

pub returns-clause-done : goal.returns-clause-done
returns-clause-done c =
    let may = net_may _ _ (step.LinkDown c.args.link) [] c.self.view_is c.requires.may in
    net_done _ _ _ (step.LinkDown c.args.link) [] c.self.view_is
    (as_it_is _ _ (step.LinkDown c.args.link) [] c.reserve_entry.new.journal.items c.push_reserved.new.self.items _
    (down_done _ c.args.link c.link_down.new.self c.link_down-2.new.self c.in_ok-more.more (c.self.inside.made + c.in_ok-more.more)
    c.routes_stay_as_they_were.ensures
    c.laws.ensures
    (c.self.invariant may.works) may c.in_ok-more.ensures.did c.link_down-2.ensures.moved c.link_down-2.ensures.left c.link_down-2.ensures.counts
    refl) may.works c.reserve_entry.ensures.items c.push_reserved.ensures.items)
