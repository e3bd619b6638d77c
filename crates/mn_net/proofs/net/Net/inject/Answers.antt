use Rattle.std.proofs.Common.{ℕ, ap, sym, ◌∙◌, ◌+◌, ◌<◌, subst, length, arith}
use Rattle.std.specs.Prelude.{slice_index}
use Rattle.mn_flight.specs.Flying.{IsFlight}
use Rattle.mn_net_laws.specs.Tallies.{Tally, frame_of}
use Rattle.mn_topo.specs.declared.steps.Step.TheVariants as step
use Rattle.mn_ledger.specs.Ledger.{world_of}
use Rattle.mn_frame_laws.specs.Given.{given}
use Rattle.mn_transit.specs.Entering.{IsWayOut}
use Rattle.mn_timetable_laws.specs.Steps.{pushed}
use Rattle.mn_net.specs.Inside.{net_in}
use Rattle.mn_net_laws.proofs.Moves.{Goes, net_may, net_done, as_it_is, numbers, one_more, counted_so, few_frames, size_small}
use Rattle.mn_net_laws.proofs.Moves.{verdicts_few, copies_fit}
use Rattle.mn_net_laws.proofs.Moves.{inject_done}
use Rattle.mn_net.proofs.Few.{made_fits, at_most_one}
use Rattle.mn_net.proofs.Clocks.{clock_early}
use Rattle.mn_net.proofs.net.Net.inject.Goals as goal
use Rattle.mn_net.proofs.net.Net.inject.Goals.{After-from-made}

pub inject-requires-clause-clock : goal.inject-requires-clause-clock
inject-requires-clause-clock c =
    let may = net_may _ _ (step.Inject c.args.site c.args.number) c.args.packet.now c.self.view_is c.requires.may in
    clock_early _ (step.Inject c.args.site c.args.number) c.args.packet.now (c.self.invariant may.works) may

pub enter-requires-clause-stands : goal.enter-requires-clause-stands
enter-requires-clause-stands c =
    let may = net_may _ _ (step.Inject c.args.site c.args.number) c.args.packet.now c.self.view_is c.requires.may in
    let is = c.self.invariant may.works in
    (c.self.inside.journal.items, is.inputs, is.stands.stands.lawful, is.stands.routes, is.stands.transport)

pub inject-requires-clause-number : goal.inject-requires-clause-number
inject-requires-clause-number c =
    let may = net_may _ _ (step.Inject c.args.site c.args.number) c.args.packet.now c.self.view_is c.requires.may in
    let is = c.self.invariant may.works in
    numbers _ is

pub inject-requires-clause-few : goal.inject-requires-clause-few
inject-requires-clause-few c =
    let may = net_may _ _ (step.Inject c.args.site c.args.number) c.args.packet.now c.self.view_is c.requires.may in
    let is = c.self.invariant may.works in
    verdicts_few _ (step.Inject c.args.site c.args.number) c.args.packet.now is may

pub inject-requires-clause-copies : goal.inject-requires-clause-copies
inject-requires-clause-copies c =
    let may = net_may _ _ (step.Inject c.args.site c.args.number) c.args.packet.now c.self.view_is c.requires.may in
    let is = c.self.invariant may.works in
    copies_fit _ (step.Inject c.args.site c.args.number) c.args.packet.now is may

pub count_frame-requires-clause-flight : goal.count_frame-requires-clause-flight
count_frame-requires-clause-flight c =
    let may = net_may _ _ (step.Inject c.args.site c.args.number) c.args.packet.now c.self.view_is c.requires.may in
    let is = c.self.invariant may.works in
    subst (λ n. IsFlight n c.inject.new.self.flying) (c.in_ok-flies.ensures.counts.channels ∙ is.channels) c.laws-2.ensures.flight

pub count_frame-requires-clause-each : goal.count_frame-requires-clause-each
count_frame-requires-clause-each c =
    let may = net_may _ _ (step.Inject c.args.site c.args.number) c.args.packet.now c.self.view_is c.requires.may in
    let is = c.self.invariant may.works in
    ap (λ (t : Tally). length t.sent) c.in_ok-reserve.ensures.kept ∙ is.stands.tally.each

pub count_frame-requires-clause-few : goal.count_frame-requires-clause-few
count_frame-requires-clause-few c = λ n below.
    let may = net_may _ _ (step.Inject c.args.site c.args.number) c.args.packet.now c.self.view_is c.requires.may in
    let is = c.self.invariant may.works in
    subst (λ (t : Tally). slice_index t.sent n < 4000000) (sym c.in_ok-reserve.ensures.kept)
    (few_frames _ (step.Inject c.args.site c.args.number) c.args.packet.now c.laws.ensures is may n below)

pub overflow_add-self : goal.overflow_add-self
overflow_add-self c =
    let may = net_may _ _ (step.Inject c.args.site c.args.number) c.args.packet.now c.self.view_is c.requires.may in
    let few = made_fits _ c.laws.ensures (c.self.invariant may.works) in
    let one = c.from-made.ensures ∙ one_more c.in_ok-flies.flies in
    omega (arith, few, one, at_most_one c.in_ok-flies.flies)

-- the packets' part did it, and it is counted
goes_on : (c : After-from-made) → ((i : ℕ) → slice_index c.args.packet.now i < 256) → Goes (net_in c.self.inside) (record (net_in c.self.inside) {
  journal = pushed c.self.inside.journal.items c.self.inside.tick (step.Inject c.args.site c.args.number);
  made = c.self.inside.made + c.from-made.result;
  moving = c.inject.new.self;
  tally = c.count_frame.new.tally;
}) (step.Inject c.args.site c.args.number) c.args.packet.now
goes_on c small =
    let may = net_may _ _ (step.Inject c.args.site c.args.number) c.args.packet.now c.self.view_is c.requires.may in
    let is = c.self.invariant may.works in
    inject_done _ c.inject.new.self c.count_frame.new.tally c.args.site c.args.number c.args.packet.now c.home_of-node.result c.in_ok-entry.entry.entered
    c.in_ok-entry.entry.outer c.in_ok-flies.flies
    (c.self.inside.made + c.from-made.result) c.a_transport_goes_on_as_it_was.ensures c.routes_stay_as_they_were.ensures c.laws.ensures is may
    (λ ps h. sym c.flying_bytes-flying.ensures.counted ∙ c.flying_bytes-flying.ensures.told _ _ _ is.channels h.stands.packets)
    c.home_of-node.ensures.home c.in_ok-entry.ensures.fate
    (size_small c.self.inside.topology (given c.self.inside.topology c.self.inside.journal.items)
    (world_of c.self.inside.topology c.self.inside.journal.items) c.args.site.0 c.args.packet.now c.in_ok-entry.entry.entered small
    (c.in_ok-entry.ensures.fate c.self.inside.journal.items is.inputs is.stands.stands.lawful is.stands.routes is.stands.transport))
    (λ es stands fate. subst (λ n. IsWayOut c.self.inside.topology (given c.self.inside.topology es) (world_of c.self.inside.topology es) n
    c.in_ok-entry.entry.entered c.in_ok-entry.entry.outer) (sym c.home_of-node.ensures.home) (c.in_ok-entry.ensures.way es stands))
    c.in_ok-flies.ensures.moved c.in_ok-flies.ensures.made c.in_ok-flies.ensures.counts
    (ap (λ n. c.self.inside.made + n) (c.from-made.ensures ∙ one_more c.in_ok-flies.flies))
    (counted_so c.self.inside.topology (frame_of c.self.inside.made c.inject.new.self.flying) c.self.inside.tally c.reserve.new.self
    c.count_frame.new.tally c.in_ok-reserve.ensures.kept c.count_frame.ensures.counted)

pub invariant_of-self-2 : goal.invariant_of-self-2
invariant_of-self-2 c = λ works.
    let may = net_may _ _ (step.Inject c.args.site c.args.number) c.args.packet.now c.self.view_is c.requires.may in
    (as_it_is _ _ (step.Inject c.args.site c.args.number) c.args.packet.now c.reserve_entry.new.journal.items c.push_reserved.new.self.items _
    (goes_on (goal.at.invariant_of-self-2 c).After-from-made (λ i. (c.type_inv.packet i).fits)) may.works c.reserve_entry.ensures.items
    c.push_reserved.ensures.items).is

pub returns-clause-done : goal.returns-clause-done
returns-clause-done c =
    let may = net_may _ _ (step.Inject c.args.site c.args.number) c.args.packet.now c.self.view_is c.requires.may in
    net_done _ _ _ (step.Inject c.args.site c.args.number) c.args.packet.now c.self.view_is
    (as_it_is _ _ (step.Inject c.args.site c.args.number) c.args.packet.now c.reserve_entry.new.journal.items c.push_reserved.new.self.items _
    (goes_on (goal.at.returns-clause-done c).After-from-made (λ i. (c.type_inv.packet i).fits)) may.works c.reserve_entry.ensures.items
    c.push_reserved.ensures.items)
