use Rattle.std.proofs.Common.{◌≡◌, ◌<◌, ◌+◌, ◌*◌, ◌-◌, ◌++◌, length}
use Rattle.std.specs.List.{All, range_with_len}
use Rattle.mn_flight.specs.Flying.{IsFlight}
use Rattle.mn_transport_laws.specs.Sending.{notices_to}
use Rattle.mn_transport.proofs.flying.tell_all.Given as goal

abbrev pub invariant-loop-node : goal.invariant-loop-node
invariant-loop-node l = let first = l.link.0 * length l.topology.loopbacks in let due = l.tick + l.topology.notice_delay in record {
  told : l.notices.items ++ notices_to first due l.number (range_with_len l.node (l.nodes - l.node)) ≡ l.fn.notices.items ++ notices_to first due
      l.fn.clock.number (range_with_len 0 l.nodes);
  count : l.number ≡ l.fn.clock.number + l.node;
  below : All (λ item. item.number < l.number) l.notices.items;
  channels : l.notices.channels ≡ l.fn.notices.channels;
  flight : IsFlight l.notices.channels l.notices.items;
}
