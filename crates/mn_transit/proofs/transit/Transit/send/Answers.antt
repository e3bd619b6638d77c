use Rattle.std.proofs.Common.{◌<◌, length, arith, ap, ◌∙◌}
use Rattle.std.proofs.lemmas.List.Elements.{All-push}
use Rattle.std.proofs.lemmas.List.Quantifiers.{all_pairs_push}
use Rattle.mn_flight.specs.declared.Item.{Item}
use Rattle.mn_transit.specs.declared.flown.Flown.{Flown}
use Rattle.mn_transit.specs.Moving.{bytes_in}
use Rattle.mn_transit.proofs.Arriving.{was_ok}
use Rattle.mn_transit.proofs.Bytes.{bytes_more}
use Rattle.mn_transit.proofs.Once.{Apart, HasWay}
use Rattle.mn_transit.proofs.transit.Transit.send.Goals as goal

pub invariant_of-self : goal.invariant_of-self
invariant_of-self c =
    let pushed = was_ok _ c.push.result (c.push.ensures.room (rw (← c.self.view_is) at c.requires.may.place.room)) c.push.ensures.pushed in
    record {
      flight = c.push.ensures.flight;
      entries = rw pushed (All-push (λ (item : Item Flown). 0 < length item.item.frame.entries) _ _ c.self.invariant.entries c.requires.may.entry);
      injected =
          rw pushed
          (All-push (λ (item : Item Flown). item.item.packet < length c.self.inside.verdicts.items) _ _ c.self.invariant.injected
          (rw (← c.self.view_is) at c.requires.may.place.injected));
      once = rw pushed (all_pairs_push Apart _ _ c.self.invariant.once (rw (← c.self.view_is) at c.requires.may.place.apart));
      room = rw pushed (All-push (HasWay c.self.inside.paths) _ _ c.self.invariant.room (rw (← c.self.view_is) at c.requires.may.hops));
      paths = c.self.invariant.paths;
      bytes =
          let more = ap bytes_in pushed ∙ bytes_more c.self.inside.frames.items _ in
          omega (arith, more, c.self.invariant.bytes, ap length c.packet.ensures.packet);
    }
