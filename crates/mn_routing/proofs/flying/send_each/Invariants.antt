use Rattle.std.proofs.Common.{◌≡◌, ◌<◌, ◌≤◌, ◌^◌, ◌+◌, ◌*◌, ◌++◌, length, drop}
use Rattle.std.specs.List.{All}
use Rattle.mn_flight.specs.Flying.{IsFlight}
use Rattle.mn_routing_laws.specs.Sending.{put_all, to_each}
use Rattle.mn_routing.proofs.flying.send_each.Given as goal

-- what is to come ends it
abbrev pub invariant-loop-peer : goal.invariant-loop-peer
invariant-loop-peer l = let first = l.edge.0 * length l.topology.loopbacks in let due = l.tick + l.topology.bgp_delay in record {
  sent : l.messages.items ++ put_all due l.number (to_each first (drop l.peer-index l.peers) l.bytes) ≡ l.fn.messages.items ++ put_all due l.fn.clock.number
      (to_each first l.peers l.bytes);
  count : l.number + length (drop l.peer-index l.peers) ≡ l.fn.clock.number + length l.peers;
  numbers : l.number ≤ 2 ^ 63 + length l.messages.items;
  below : All (λ item. item.number < l.number) l.messages.items;
  channels : l.messages.channels ≡ l.fn.messages.channels;
  flight : IsFlight l.messages.channels l.messages.items;
}
