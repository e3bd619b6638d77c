use Rattle.std.proofs.Common.{◌≡◌, ◌<◌, ◌+◌, ◌++◌, length, map}
use Rattle.std.specs.List.{All, AllByRecursion}
use Rattle.std.specs.Vec.Iter.{into_iter_items, into_iter_len}
use Rattle.mn_lsr.specs.Said.{pdu_of}
use Rattle.mn_topo.specs.Network.{wiring_of}
use Rattle.mn_flight.specs.Flying.{IsFlight}
use Rattle.mn_transport_laws.specs.Sending.{put_pdus}
use Rattle.mn_transport.proofs.flying.send.Given as goal

abbrev pub invariant-loop-said : goal.invariant-loop-said
invariant-loop-said l = record {
  sent : l.messages.items ++ put_pdus (wiring_of l.topology) l.node.0 l.tick l.number (map pdu_of (into_iter_items l.said-iterator))
      ≡ l.fn.messages.items ++ put_pdus (wiring_of l.topology) l.node.0 l.tick l.fn.clock.number (map pdu_of (into_iter_items l.initial.said-iterator));
  count : l.number + length (into_iter_items l.said-iterator) ≡ l.fn.clock.number + length (into_iter_items l.initial.said-iterator);
  below : All (λ item. item.number < l.number) l.messages.items;
  channels : l.messages.channels ≡ l.fn.messages.channels;
  flight : IsFlight l.messages.channels l.messages.items;
  links : AllByRecursion (λ said. said.link.0 < length l.topology.links) (into_iter_items l.said-iterator);
  left : into_iter_len l.said-iterator ≡ length (into_iter_items l.said-iterator);
}
