use Rattle.std.proofs.Common.{◌≡◌, ◌+◌, ◌*◌, ◌++◌, ◌∙◌, ap, append-nil, arith, length, List, map, sym}
use Rattle.std.proofs.lemmas.List.{drop_all}
use Rattle.mn_pe.specs.Held.{Exported}
use Rattle.mn_edges.specs.Said.{spelled_in}
use Rattle.mn_routing_laws.specs.Sending.{Parcel, put_all, news_to}
use Rattle.mn_routing_laws.proofs.Putting.{told_next, told_count}
use Rattle.mn_routing.proofs.Nobody.{to_nobody}
use Rattle.mn_routing.proofs.flying.tell.Goals as goal

pub loop-export-preserved : goal.loop-export-preserved
loop-export-preserved c =
    let at = c.loop-export in
    let t = c.args.topology.now in
    let first = c.args.edge.0 * length t.loopbacks in
    let spelled = c.deref.ensures.value ∙ c.in_ok-bytes.ensures ∙ ap (spelled_in t c.args.edge.0 c.args.comes) c.export-item.is in
    record {
      sent = told_next (c.args.clock.tick + t.bgp_delay) at.number c.in_ok-number.number first at.export-index at.messages.items
          c.send_each.new.messages.items _ c.args.peers.now (spelled_in t c.args.edge.0 c.args.comes) c.args.exports.now c.export-item.result
          c.deref.result.now c.loop-export-test.true
          spelled c.in_ok-number.ensures.next c.in_ok-number.ensures.sent at.invariant.sent;
      count = told_count at.number c.in_ok-number.number _ first at.export-index c.args.peers.now
          (spelled_in t c.args.edge.0 c.args.comes) c.args.exports.now c.export-item.result c.loop-export-test.true c.in_ok-number.ensures.next
          at.invariant.count;
      numbers = c.in_ok-number.ensures.numbers;
      below = c.in_ok-number.ensures.number;
      channels = c.send_each.ensures.channels ∙ at.invariant.channels;
      flight = c.send_each.ensures.flight;
    }

-- with nobody to tell, there is nothing to say
pub returns-then-is_empty-clause-told : goal.returns-then-is_empty-clause-told
returns-then-is_empty-clause-told c =
    let t = c.args.topology.now in
    sym (ap (λ (ps : List Parcel). c.args.messages.now.items ++ put_all (c.args.clock.tick + t.bgp_delay) c.args.clock.number ps)
    (to_nobody (c.args.edge.0 * length t.loopbacks) c.args.peers.now (map (spelled_in t c.args.edge.0 c.args.comes) c.args.exports.now)
    (sym c.is_empty.ensures ∙ c.if-is_empty.true))
    ∙ append-nil c.args.messages.now.items)

pub returns-then-is_empty-clause-next : goal.returns-then-is_empty-clause-next
returns-then-is_empty-clause-next c =
    let t = c.args.topology.now in
    let none : length (news_to t c.args.edge.0 c.args.peers.now c.args.comes c.args.exports.now) ≡ 0 =
    ap (λ (ps : List Parcel). length ps)
    (to_nobody (c.args.edge.0 * length t.loopbacks) c.args.peers.now (map (spelled_in t c.args.edge.0 c.args.comes) c.args.exports.now)
    (sym c.is_empty.ensures ∙ c.if-is_empty.true)) in
    omega (arith, none)

-- all is told
pub returns-clause-told : goal.returns-clause-told
returns-clause-told c =
    let at = c.loop-export in
    let t = c.args.topology.now in
    sym (append-nil at.messages.items)
    ∙ sym (ap (λ (xs : List Exported). at.messages.items ++ put_all (c.args.clock.tick + t.bgp_delay) at.number
    (news_to t c.args.edge.0 c.args.peers.now c.args.comes xs))
    (drop_all at.export-index c.args.exports.now c.loop-export-test.false))
    ∙ at.invariant.sent

pub returns-clause-next : goal.returns-clause-next
returns-clause-next c =
    let at = c.loop-export in
    let none = ap (λ (xs : List Exported). length (news_to c.args.topology.now c.args.edge.0 c.args.peers.now c.args.comes xs))
    (drop_all at.export-index c.args.exports.now c.loop-export-test.false) in
    omega (arith, none, at.invariant.count)
