use Rattle.std.proofs.Common.{◌≡◌, ◌<◌, arith, Some, ap, subst, ◌∙◌}
use Rattle.std.specs.Prelude.{slice_get}
use Rattle.std.proofs.lemmas.Grind.{common_steps}
use Rattle.mn_flight.specs.declared.Item.{Item}
use Rattle.mn_flight.specs.Flying.{on_channel, without}
use Rattle.mn_ledger.specs.Packets.{channel}
use Rattle.mn_transit.specs.declared.flown.Flown.{Flown}
use Rattle.mn_transit.specs.Moving.{Moving, bytes_in}
use Rattle.mn_transit.specs.Stands.{Makes}
use Rattle.mn_transit.proofs.Bytes.{bytes_left}
use Rattle.mn_transit.proofs.Counts.{counts_begun, counts_taken, counts_then, counts_back}
use Rattle.mn_transit.proofs.Taking.{holds_left}
use Rattle.mn_transit.proofs.Going.{stands_carried}
use Rattle.mn_transit.proofs.transit.Transit.carry.Goals as goal

pub arrive-requires-clause-place : goal.arrive-requires-clause-place
arrive-requires-clause-place c = record {
  channels = grind (arith, common_steps);
  clock = c.requires.clock;
  last =
      rw (c.visit.ensures, c.in-Some.ensures.left, c.begin.ensures.begun)
      (holds_left (λ (item : Item Flown). item.number < c.args.clock.number) c.args.self.now.flying (Some c.in-Some.taken) c.requires.number);
  bytes =
      let less = bytes_left _ _ _ _ c.take.ensures.flight.ascending c.in-Some.ensures.taken in
      let same : bytes_in c.begin.new.self.flying ≡ bytes_in c.args.self.now.flying = ap (λ (m : Moving). bytes_in m.flying) c.begin.ensures.begun in
      rw (c.visit.ensures, c.in-Some.ensures.left) (omega (arith, less, same, c.requires.bytes));
  room = grind (arith, common_steps);
  injected = grind (arith, common_steps);
  apart = grind (arith, common_steps);
}

pub returns-clause-moved : goal.returns-clause-moved
returns-clause-moved c = λ given world packets bytes.
    stands_carried _ given world _ _ _ _ _ packets _ _ c.args.link c.args.dir c.receiver-node.result c.in-Some.taken _ bytes c.begin.ensures.begun
    c.channel_of-at.ensures c.receiver-node.ensures.end
    (record { found = c.in-Some.ensures.taken; left = c.in-Some.ensures.left; flight = c.take.ensures.flight }) c.visit.ensures c.arrive.ensures.stands

pub returns-clause-made : goal.returns-clause-made
returns-clause-made c =
    let before : c.visit.new.self.flying ≡ without (slice_get (on_channel (channel c.args.link.0 c.args.dir) c.args.self.now.flying) c.args.place)
    c.args.self.now.flying =
    ap (λ (m : Moving). m.flying) c.visit.ensures ∙ ap (λ (m : Moving). m.flying) c.in-Some.ensures.left
    ∙ ap (λ r. without r c.begin.new.self.flying) c.in-Some.ensures.taken
    ∙ ap (λ a. without (slice_get (on_channel a c.begin.new.self.flying) c.args.place) c.begin.new.self.flying) c.channel_of-at.ensures
    ∙ ap (λ (m : Moving). without (slice_get (on_channel (channel c.args.link.0 c.args.dir) m.flying) c.args.place) m.flying) c.begin.ensures.begun in
    subst (λ f. Makes c.args.topology.now c.args.clock.tick c.args.clock.number f c.arrive.new.self.flying c.arrive.result) before c.arrive.ensures.made

pub returns-clause-counts : goal.returns-clause-counts
returns-clause-counts c =
    let taken = counts_taken c.begin.new.self c.take.new.self _ _ c.in-Some.taken c.take.ensures.flight c.in-Some.ensures.taken c.in-Some.ensures.left in
    counts_then c.args.self.now c.begin.new.self c.arrive.new.self 0 0 0 1 0 0 (counts_begun _ _ c.begin.ensures.begun)
    (counts_back c.begin.new.self c.take.new.self c.visit.new.self c.arrive.new.self _ _ taken.0 taken.1 c.visit.ensures c.arrive.ensures.counts)
