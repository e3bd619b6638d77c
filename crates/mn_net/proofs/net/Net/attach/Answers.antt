use Rattle.std.proofs.Common.{[], ◌+◌, refl, arith}
use Rattle.mn_topo.specs.declared.steps.Step.TheVariants as step
use Rattle.mn_net_laws.proofs.Moves.{net_may, net_done, as_it_is}
use Rattle.mn_net_laws.proofs.Turns.{link_may, link_turn}
use Rattle.mn_net_laws.proofs.Sites.{may_give, attach_done}
use Rattle.mn_net.proofs.Few.{later_fits}
use Rattle.mn_net.proofs.Views.{finds}
use Rattle.mn_net.proofs.net.Net.attach.Goals as goal

pub attach-requires : goal.attach-requires
attach-requires c =
    let its = finds _ _ (step.Attach c.args.site) [] c.self.view_is c.laws.ensures c.self.invariant c.requires.may in
    record { may = link_may _ (step.Attach c.args.site) c.laws.ensures its.is its.may refl }

pub attach-requires-2 : goal.attach-requires-2
attach-requires-2 c =
    let its = finds _ _ (step.Attach c.args.site) [] c.self.view_is c.laws.ensures c.self.invariant c.requires.may in
    record {
      tick = its.tick;
      numbers = its.numbers;
      messages = its.routes;
      may = may_give _ c.args.site c.in-Ok.label its.is its.may
          (c.in-Ok.ensures.next c.self.inside.journal.items its.is.stands.transport (link_turn _ (step.Attach c.args.site) c.laws.ensures its.is its.may refl));
    }

pub overflow_add-self : goal.overflow_add-self
overflow_add-self c =
    let may = net_may _ _ (step.Attach c.args.site) [] c.self.view_is c.requires.may in
    let is = c.self.invariant may.works in
    let few = later_fits _ _ (step.Attach c.args.site) [] c.laws.ensures
    (attach_done _ c.args.site c.in-Ok.label c.attach.new.self c.attach-2.new.self c.begin.new.self c.in_ok-more.more (c.self.inside.made + c.in_ok-more.more)
    c.laws.ensures is may
    (c.in-Ok.ensures.next c.self.inside.journal.items is.stands.transport (link_turn _ (step.Attach c.args.site) c.laws.ensures is may refl))
    c.in-Ok.ensures.goes c.in-Ok.ensures.notices c.in-Ok.ensures.messages c.in_ok-more.ensures.did c.begin.ensures.begun refl) in
    omega (arith, few)

pub invariant_of-self-2 : goal.invariant_of-self-2
invariant_of-self-2 c = λ works.
    let may = net_may _ _ (step.Attach c.args.site) [] c.self.view_is c.requires.may in
    let is = c.self.invariant may.works in
    (as_it_is _ _ (step.Attach c.args.site) [] c.reserve_entry.new.journal.items c.push_reserved.new.self.items _
    (attach_done _ c.args.site c.in-Ok.label c.attach.new.self c.attach-2.new.self c.begin.new.self c.in_ok-more.more (c.self.inside.made + c.in_ok-more.more)
    c.laws.ensures is may
    (c.in-Ok.ensures.next c.self.inside.journal.items is.stands.transport (link_turn _ (step.Attach c.args.site) c.laws.ensures is may refl))
    c.in-Ok.ensures.goes c.in-Ok.ensures.notices c.in-Ok.ensures.messages c.in_ok-more.ensures.did c.begin.ensures.begun refl)
    may.works c.reserve_entry.ensures.items c.push_reserved.ensures.items).is

pub returns-clause-done : goal.returns-clause-done
returns-clause-done c =
    let may = net_may _ _ (step.Attach c.args.site) [] c.self.view_is c.requires.may in
    let is = c.self.invariant may.works in
    net_done _ _ _ (step.Attach c.args.site) [] c.self.view_is
    (as_it_is _ _ (step.Attach c.args.site) [] c.reserve_entry.new.journal.items c.push_reserved.new.self.items _
    (attach_done _ c.args.site c.in-Ok.label c.attach.new.self c.attach-2.new.self c.begin.new.self c.in_ok-more.more (c.self.inside.made + c.in_ok-more.more)
    c.laws.ensures is may
    (c.in-Ok.ensures.next c.self.inside.journal.items is.stands.transport (link_turn _ (step.Attach c.args.site) c.laws.ensures is may refl))
    c.in-Ok.ensures.goes c.in-Ok.ensures.notices c.in-Ok.ensures.messages c.in_ok-more.ensures.did c.begin.ensures.begun refl)
    may.works c.reserve_entry.ensures.items c.push_reserved.ensures.items)
