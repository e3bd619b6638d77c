use Rattle.std.proofs.Common.{◌+◌, ◌*◌, ◌∷◌, [], ◌++◌, ℕ, List, length, get_or, ◌∙◌, ap, refl}
use Rattle.mn_flight.specs.declared.Item.{Item}
use Rattle.mn_routing_laws.proofs.Putting.{below_next, sent_next, count_next}
use Rattle.mn_routing.proofs.flying.send_each.Goals as goal

-- one peer more is told
pub loop-peer-preserved : goal.loop-peer-preserved
loop-peer-preserved c =
    let at = c.loop-peer in
    let first : ℕ = c.args.edge.0 * length c.args.topology.now.loopbacks in
    let due : ℕ = c.args.clock.tick + c.args.topology.now.bgp_delay in
    let to : ℕ = (get_or c.args.peers.now at.peer-index (record { 0 = 0 })).0 in
    let parcel : ℕ → List ℕ → Item (List ℕ) = λ peer bytes. record { channel = first + peer; due = due; number = at.number; item = bytes } in
    record {
      sent = sent_next due at.number c.in_ok-number.number first at.peer-index at.messages.items c.send.new.messages.items _ c.args.peers.now
          (record { 0 = 0 }) c.args.bytes.now c.loop-peer-test.true c.in_ok-number.ensures.next
          (c.in_ok-number.ensures.sent ∙ ap (λ bytes. at.messages.items ++ parcel to bytes ∷ []) c.in_ok-copy.ensures.items) at.invariant.sent;
      count = count_next c.args.peers.now at.peer-index at.number c.in_ok-number.number _ c.loop-peer-test.true c.in_ok-number.ensures.next at.invariant.count;
      numbers = c.in_ok-number.ensures.numbers;
      below = below_next at.number c.in_ok-number.number at.messages.items c.send.new.messages.items _ c.in_ok-number.ensures.next
          c.in_ok-number.ensures.sent refl at.invariant.below;
      channels = c.send.ensures.channels ∙ at.invariant.channels;
      flight = c.send.ensures.flight;
    }
