use Rattle.std.proofs.Common.{[], ◌+◌, ◌∙◌, refl, arith}
use Rattle.mn_net_laws.proofs.Moves.{net_may, net_done, as_it_is}
use Rattle.mn_net_laws.proofs.Turns.{touched, link_may, link_done}
use Rattle.mn_net.specs.Turns.{link_step}
use Rattle.mn_net.proofs.Few.{later_fits}
use Rattle.mn_net.proofs.Views.{finds}
use Rattle.mn_net.proofs.OfTurns.{of_links, as_said}
use Rattle.mn_net.proofs.net.Net.turn_link.Goals as goal

pub act-requires : goal.act-requires
act-requires c =
    let its = finds _ _ (link_step c.args.turn) [] c.self.view_is c.laws.ensures c.self.invariant c.requires.may in
    record {
      tick = its.tick;
      numbers = its.numbers;
      changes = its.changes;
      notices = its.notices;
      messages = its.messages;
      may = link_may _ (link_step c.args.turn) c.laws.ensures its.is its.may (touched (link_step c.args.turn) (of_links c.args.turn).0);
    }

pub overflow_add-self : goal.overflow_add-self
overflow_add-self c =
    let may = net_may _ _ (link_step c.args.turn) [] c.self.view_is c.requires.may in
    let few = later_fits _ _ (link_step c.args.turn) [] c.laws.ensures
    (link_done _ (link_step c.args.turn) c.act.new.transport c.begin.new.self c.in_ok-more.more (c.self.inside.made + c.in_ok-more.more)
    c.routes_stay_as_they_were.ensures
    c.laws.ensures
    (c.self.invariant may.works) may (of_links c.args.turn).0 (of_links c.args.turn).1 c.in_ok-more.ensures.did c.begin.ensures.begun refl) in
    omega (arith, few)

pub invariant_of-self-2 : goal.invariant_of-self-2
invariant_of-self-2 c = λ works.
    let may = net_may _ _ (link_step c.args.turn) [] c.self.view_is c.requires.may in
    (as_it_is _ _ (link_step c.args.turn) [] c.reserve_entry.new.journal.items c.push_reserved.new.self.items _
    (link_done _ (link_step c.args.turn) c.act.new.transport c.begin.new.self c.in_ok-more.more (c.self.inside.made + c.in_ok-more.more)
    c.routes_stay_as_they_were.ensures
    c.laws.ensures
    (c.self.invariant may.works) may (of_links c.args.turn).0 (of_links c.args.turn).1 c.in_ok-more.ensures.did c.begin.ensures.begun refl) may.works
    c.reserve_entry.ensures.items (c.push_reserved.ensures.items ∙ as_said _ _ _ c.step.ensures)).is

pub returns-clause-done : goal.returns-clause-done
returns-clause-done c =
    let may = net_may _ _ (link_step c.args.turn) [] c.self.view_is c.requires.may in
    net_done _ _ _ (link_step c.args.turn) [] c.self.view_is
    (as_it_is _ _ (link_step c.args.turn) [] c.reserve_entry.new.journal.items c.push_reserved.new.self.items _
    (link_done _ (link_step c.args.turn) c.act.new.transport c.begin.new.self c.in_ok-more.more (c.self.inside.made + c.in_ok-more.more)
    c.routes_stay_as_they_were.ensures
    c.laws.ensures
    (c.self.invariant may.works) may (of_links c.args.turn).0 (of_links c.args.turn).1 c.in_ok-more.ensures.did c.begin.ensures.begun refl) may.works
    c.reserve_entry.ensures.items (c.push_reserved.ensures.items ∙ as_said _ _ _ c.step.ensures))
