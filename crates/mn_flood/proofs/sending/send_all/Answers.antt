use Rattle.std.proofs.Common.{◌≤◌, length, arith, sym, ◌∙◌, ap, take, List, Option}
use Rattle.mn_flood_laws.specs.Flood.{Advert}
use Rattle.mn_flood.proofs.Sends.{over_it, one_sent, no_one_sent, few_over, still_room, few_more}
use Rattle.mn_flood.proofs.sending.send_all.Goals.{in-Some+in_ok-send_over, in_default}
use Rattle.mn_flood.proofs.sending.send_all.Goals as goal

pub send_over-requires-clause-room : goal.send_over-requires-clause-room
send_over-requires-clause-room c =
    let row = c.adverts-advert-items.result.now in
    let few : length (over_it c.args.links.now c.args.node.0 c.args.link.0 (take c.loop-advert.advert-index row)) ≤ length c.args.database.now =
    omega (
      arith,
      few_over c.args.links.now c.args.node.0 c.args.link.0 row c.loop-advert.advert-index,
      ap (λ (r : List (Option Advert)). length r) c.adverts-advert-items.ensures,
    ) in
    still_room c.args.queue.now c.loop-advert.queue _ (length c.args.database.now) _ c.loop-advert.invariant few c.requires.room

pub loop-advert-preserved : goal.loop-advert-preserved
loop-advert-preserved c =
    let row = c.adverts-advert-items.result.now in
    elim c.match-advert.branch [
      | in-Some+in_ok-send_over w ↦
          one_sent c.args.links.now c.args.node.0 c.args.link.0 c.args.queue.now c.loop-advert.queue c.match-advert.queue row c.loop-advert.advert-index
          c.advert-item.result w.in-Some.advert
          c.loop-advert-test.true c.loop-advert.invariant (sym c.advert-item.is ∙ w.in-Some.is) (w.queue-is ∙ w.in_ok-send_over.ensures.sent)
      | in_default w ↦
          w.queue-is ∙ no_one_sent c.args.links.now c.args.node.0 c.args.link.0 c.args.queue.now c.loop-advert.queue row c.loop-advert.advert-index
          c.advert-item.result
          c.loop-advert-test.true c.loop-advert.invariant (sym c.advert-item.is ∙ w.in_default.is)
    ]

pub returns-clause-made : goal.returns-clause-made
returns-clause-made c =
    let row = c.adverts-advert-items.result.now in
    let few : length (over_it c.args.links.now c.args.node.0 c.args.link.0 (take c.loop-advert.advert-index row)) ≤ length c.args.database.now =
    omega (
      arith,
      few_over c.args.links.now c.args.node.0 c.args.link.0 row c.loop-advert.advert-index,
      ap (λ (r : List (Option Advert)). length r) c.adverts-advert-items.ensures,
    ) in
    few_more c.args.queue.now c.loop-advert.queue _ (length c.args.database.now) c.loop-advert.invariant few
