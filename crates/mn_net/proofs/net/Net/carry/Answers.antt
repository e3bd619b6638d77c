use Rattle.std.proofs.Common.{[], ap, ◌∙◌, ◌+◌, ◌<◌, subst, sym, length, arith}
use Rattle.std.specs.Prelude.{slice_index}
use Rattle.mn_flight.specs.Flying.{IsFlight}
use Rattle.mn_net_laws.specs.Tallies.{Tally, frame_of}
use Rattle.mn_topo.specs.declared.steps.Step.TheVariants as step
use Rattle.mn_timetable_laws.specs.Steps.{pushed}
use Rattle.mn_net.specs.Inside.{net_in}
use Rattle.mn_net_laws.proofs.Moves.{Goes, net_may, net_done, as_it_is, numbers, frame_there, one_more, counted_so, few_frames, carry_done}
use Rattle.mn_net.proofs.Few.{made_fits, at_most_one}
use Rattle.mn_net.proofs.Clocks.{clock_early}
use Rattle.mn_net.proofs.net.Net.carry.Goals as goal
use Rattle.mn_net.proofs.net.Net.carry.Goals.{After-from-made}

pub carry-flies-requires-clause-clock : goal.carry-flies-requires-clause-clock
carry-flies-requires-clause-clock c =
    let may = net_may _ _ (step.Carry c.args.link c.args.dir c.args.place) [] c.self.view_is c.requires.may in
    clock_early _ (step.Carry c.args.link c.args.dir c.args.place) [] (c.self.invariant may.works) may

pub carry-flies-requires-clause-there : goal.carry-flies-requires-clause-there
carry-flies-requires-clause-there c =
    let may = net_may _ _ (step.Carry c.args.link c.args.dir c.args.place) [] c.self.view_is c.requires.may in
    frame_there _ (c.self.invariant may.works) c.args.link c.args.dir c.args.place may

pub carry-flies-requires-clause-number : goal.carry-flies-requires-clause-number
carry-flies-requires-clause-number c =
    let may = net_may _ _ (step.Carry c.args.link c.args.dir c.args.place) [] c.self.view_is c.requires.may in
    numbers _ (c.self.invariant may.works)

pub count_frame-requires-clause-flight : goal.count_frame-requires-clause-flight
count_frame-requires-clause-flight c =
    let may = net_may _ _ (step.Carry c.args.link c.args.dir c.args.place) [] c.self.view_is c.requires.may in
    let is = c.self.invariant may.works in
    subst (λ n. IsFlight n c.carry-flies.new.self.flying) (c.carry-flies.ensures.counts.channels ∙ is.channels) c.laws-2.ensures.flight

pub count_frame-requires-clause-each : goal.count_frame-requires-clause-each
count_frame-requires-clause-each c =
    let may = net_may _ _ (step.Carry c.args.link c.args.dir c.args.place) [] c.self.view_is c.requires.may in
    let is = c.self.invariant may.works in
    ap (λ (t : Tally). length t.sent) c.in_ok-reserve.ensures.kept ∙ is.stands.tally.each

pub count_frame-requires-clause-few : goal.count_frame-requires-clause-few
count_frame-requires-clause-few c = λ n below.
    let may = net_may _ _ (step.Carry c.args.link c.args.dir c.args.place) [] c.self.view_is c.requires.may in
    let is = c.self.invariant may.works in
    subst (λ (t : Tally). slice_index t.sent n < 4000000) (sym c.in_ok-reserve.ensures.kept)
    (few_frames _ (step.Carry c.args.link c.args.dir c.args.place) [] c.laws.ensures is may n below)

pub overflow_add-self : goal.overflow_add-self
overflow_add-self c =
    let may = net_may _ _ (step.Carry c.args.link c.args.dir c.args.place) [] c.self.view_is c.requires.may in
    let few = made_fits _ c.laws.ensures (c.self.invariant may.works) in
    let one = c.from-made.ensures ∙ one_more c.carry-flies.result in
    omega (arith, few, one, at_most_one c.carry-flies.result)

-- the packets' part did it, and it is counted
goes_on : (c : After-from-made) → Goes (net_in c.self.inside) (record (net_in c.self.inside) {
  journal = pushed c.self.inside.journal.items c.self.inside.tick (step.Carry c.args.link c.args.dir c.args.place);
  made = c.self.inside.made + c.from-made.result;
  moving = c.carry-flies.new.self;
  tally = c.count_frame.new.tally;
}) (step.Carry c.args.link c.args.dir c.args.place) []
goes_on c =
    let may = net_may _ _ (step.Carry c.args.link c.args.dir c.args.place) [] c.self.view_is c.requires.may in
    carry_done _ c.carry-flies.new.self c.count_frame.new.tally c.args.link c.args.dir c.args.place c.carry-flies.result
    (c.self.inside.made + c.from-made.result) c.receiver-node.result.0
    c.node.result.now c.table-table.result.now c.a_transport_goes_on_as_it_was.ensures c.routes_stay_as_they_were.ensures c.laws.ensures
    (c.self.invariant may.works) may c.receiver-node.ensures.end
    c.node.ensures c.table-table.ensures.uses c.carry-flies.ensures.moved c.carry-flies.ensures.made c.carry-flies.ensures.counts
    (ap (λ n. c.self.inside.made + n) (c.from-made.ensures ∙ one_more c.carry-flies.result))
    (counted_so c.self.inside.topology (frame_of c.self.inside.made c.carry-flies.new.self.flying) c.self.inside.tally c.reserve.new.self
    c.count_frame.new.tally c.in_ok-reserve.ensures.kept c.count_frame.ensures.counted)

pub invariant_of-self-2 : goal.invariant_of-self-2
invariant_of-self-2 c = λ works.
    let may = net_may _ _ (step.Carry c.args.link c.args.dir c.args.place) [] c.self.view_is c.requires.may in
    (as_it_is _ _ (step.Carry c.args.link c.args.dir c.args.place) [] c.reserve_entry.new.journal.items c.push_reserved.new.self.items _
    (goes_on (goal.at.invariant_of-self-2 c).After-from-made) may.works c.reserve_entry.ensures.items c.push_reserved.ensures.items).is

pub returns-clause-done : goal.returns-clause-done
returns-clause-done c =
    let may = net_may _ _ (step.Carry c.args.link c.args.dir c.args.place) [] c.self.view_is c.requires.may in
    net_done _ _ _ (step.Carry c.args.link c.args.dir c.args.place) [] c.self.view_is
    (as_it_is _ _ (step.Carry c.args.link c.args.dir c.args.place) [] c.reserve_entry.new.journal.items c.push_reserved.new.self.items _
    (goes_on (goal.at.returns-clause-done c).After-from-made) may.works c.reserve_entry.ensures.items c.push_reserved.ensures.items)
