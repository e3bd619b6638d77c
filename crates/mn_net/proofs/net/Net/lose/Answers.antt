use Rattle.std.proofs.Common.{[]}
use Rattle.mn_topo.specs.declared.steps.Step.TheVariants as step
use Rattle.mn_net_laws.proofs.Moves.{net_may, net_done, as_it_is, lost_there, lose_done}
use Rattle.mn_net.proofs.net.Net.lose.Goals as goal

pub lose-requires-clause-there : goal.lose-requires-clause-there
lose-requires-clause-there c =
    let may = net_may _ _ (step.Lose c.args.link c.args.dir c.args.place) [] c.self.view_is c.requires.may in
    lost_there _ (c.self.invariant may.works) c.args.link c.args.dir c.args.place may

pub invariant_of-self-2 : goal.invariant_of-self-2
invariant_of-self-2 c = λ works.
    let may = net_may _ _ (step.Lose c.args.link c.args.dir c.args.place) [] c.self.view_is c.requires.may in
    (as_it_is _ _ (step.Lose c.args.link c.args.dir c.args.place) [] c.reserve_entry.new.journal.items c.push_reserved.new.self.items _
    (lose_done _ c.lose.new.self c.args.link c.args.dir c.args.place c.a_transport_goes_on_as_it_was.ensures c.routes_stay_as_they_were.ensures
    c.laws.ensures (c.self.invariant may.works) may
    c.lose.ensures.moved c.lose.ensures.left c.lose.ensures.counts) may.works c.reserve_entry.ensures.items c.push_reserved.ensures.items).is

pub returns-clause-done : goal.returns-clause-done
returns-clause-done c =
    let may = net_may _ _ (step.Lose c.args.link c.args.dir c.args.place) [] c.self.view_is c.requires.may in
    net_done _ _ _ (step.Lose c.args.link c.args.dir c.args.place) [] c.self.view_is
    (as_it_is _ _ (step.Lose c.args.link c.args.dir c.args.place) [] c.reserve_entry.new.journal.items c.push_reserved.new.self.items _
    (lose_done _ c.lose.new.self c.args.link c.args.dir c.args.place c.a_transport_goes_on_as_it_was.ensures c.routes_stay_as_they_were.ensures
    c.laws.ensures (c.self.invariant may.works) may
    c.lose.ensures.moved c.lose.ensures.left c.lose.ensures.counts) may.works c.reserve_entry.ensures.items c.push_reserved.ensures.items)
