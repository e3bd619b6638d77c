use Rattle.std.proofs.Common.{◌≡◌, ◌<◌, ◌≤◌, ◌^◌, ◌+◌, ◌*◌, ◌++◌, length, drop, map}
use Rattle.std.specs.List.{All}
use Rattle.mn_flight.specs.Flying.{IsFlight}
use Rattle.mn_edges.specs.Said.{spelled_in}
use Rattle.mn_routing_laws.specs.Sending.{put_all, to_all}
use Rattle.mn_routing.proofs.flying.tell.Given as goal

-- what is to come ends it
abbrev pub invariant-loop-export : goal.invariant-loop-export
invariant-loop-export l = let first = l.edge.0 * length l.topology.loopbacks in let due = l.tick + l.topology.bgp_delay in record {
  sent : l.messages.items ++ put_all due l.number (to_all first l.peers (map (spelled_in l.topology l.edge.0 l.comes) (drop l.export-index l.exports)))
      ≡ l.fn.messages.items ++ put_all due l.fn.clock.number (to_all first l.peers (map (spelled_in l.topology l.edge.0 l.comes) l.exports));
  count : l.number + length (to_all first l.peers (map (spelled_in l.topology l.edge.0 l.comes) (drop l.export-index l.exports)))
      ≡ l.fn.clock.number + length (to_all first l.peers (map (spelled_in l.topology l.edge.0 l.comes) l.exports));
  numbers : l.number ≤ 2 ^ 63 + length l.messages.items;
  below : All (λ item. item.number < l.number) l.messages.items;
  channels : l.messages.channels ≡ l.fn.messages.channels;
  flight : IsFlight l.messages.channels l.messages.items;
}
