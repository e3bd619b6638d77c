use Rattle.std.proofs.Common.{◌≡◌, ◌<◌, ◌∷◌, ◌∙◌, List, arith, refl, subst, ap, map, length, ◌++◌, sym}
use Rattle.std.specs.List.{AllByRecursion}
use Rattle.std.specs.Vec.Iter.{into_iter_items}
use Rattle.mn_lsr.specs.Said.{pdu_of}
use Rattle.mn_lsr.specs.declared.said.Said.{Said}
use Rattle.mn_topo.specs.Network.{wiring_of}
use Rattle.mn_transport_laws.specs.Sending.{put_pdus}
use Rattle.mn_transport_laws.proofs.Putting.{sent-next, below-next}
use Rattle.mn_transport.proofs.flying.send.Goals as goal

pub loop-said-preserved : goal.loop-said-preserved
loop-said-preserved c =
    let at = c.loop-said in
    let x = c.in-Some.said in
    let steps : into_iter_items at.said-iterator ≡ x ∷ into_iter_items c.next.new.self = c.in-Some.ensures.steps.0 in
    let gone = c.in-Some.ensures.steps.1 in
    let short = ap length steps in
    let was = at.invariant.count in
    let left = at.invariant.left in
    record {
      sent = sent-next (wiring_of c.args.topology.now) c.args.node.0 c.args.clock.tick at.number _ at.messages.items _ _ (pdu_of x)
          (map pdu_of (into_iter_items c.next.new.self)) refl c.in_ok-send_one.ensures.sent
          (sym (ap (λ (xs : List Said). at.messages.items ++ put_pdus (wiring_of c.args.topology.now) c.args.node.0 c.args.clock.tick at.number
          (map pdu_of xs)) steps) ∙ at.invariant.sent);
      count = omega (arith, was, short);
      below = below-next at.number _ at.messages.items _ _ refl c.in_ok-send_one.ensures.sent refl at.invariant.below;
      channels = c.send_one.ensures.channels ∙ at.invariant.channels;
      flight = c.send_one.ensures.flight;
      links = (subst (AllByRecursion (λ said. said.link.0 < length c.args.topology.now.links)) steps at.invariant.links).1;
      left = omega (arith, left, gone, short);
    }
