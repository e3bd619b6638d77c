use Rattle.std.proofs.Common.{◌≤◌, length, arith, take}
use Rattle.mn_flood.proofs.Sends.{all_sent, few_sent, still_room, few_more, no_more}
use Rattle.mn_flood.proofs.sending.send_on.Goals as goal

pub send_over-requires-clause-room : goal.send_over-requires-clause-room
send_over-requires-clause-room c =
    let links = c.at-link-items.result.now in
    let few : length (all_sent c.args.links.now c.args.node.0 c.args.advert.now c.args.up.now c.args.but.0 (take c.loop-link.link-index links)) ≤ length
    c.args.links.now.ends =
    omega (
      arith,
      few_sent c.args.links.now c.args.node.0 c.args.advert.now c.args.up.now c.args.but.0 links c.loop-link.link-index,
      no_more c.loop-link.link-index links,
      c.at-link-items.ensures.few,
    ) in
    still_room c.args.queue.now c.loop-link.queue _ (length c.args.links.now.ends) _ c.loop-link.invariant few c.requires.room

pub returns-clause-made : goal.returns-clause-made
returns-clause-made c =
    let links = c.at-link-items.result.now in
    let few : length (all_sent c.args.links.now c.args.node.0 c.args.advert.now c.args.up.now c.args.but.0 (take c.loop-link.link-index links)) ≤ length
    c.args.links.now.ends =
    omega (
      arith,
      few_sent c.args.links.now c.args.node.0 c.args.advert.now c.args.up.now c.args.but.0 links c.loop-link.link-index,
      no_more c.loop-link.link-index links,
      c.at-link-items.ensures.few,
    ) in
    few_more c.args.queue.now c.loop-link.queue _ (length c.args.links.now.ends) c.loop-link.invariant few
