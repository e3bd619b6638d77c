use Rattle.std.proofs.Common.{ap, ◌∙◌, length, arith}
use Rattle.mn_bgp_wire.specs.Written.{announced, update_bytes}
use Rattle.mn_bgp_wire.proofs.Spelling.{announced_size, announced_is_spelled, spelled_by, of_attributes}
use Rattle.mn_bgp_wire.proofs.write.write_reach.Goals as goal

pub update_message-requires : goal.update_message-requires
update_message-requires c =
    let same = ap length (c.deref.ensures.value ∙ c.in_ok-attributes.ensures.attributes) in
    let size = announced_size c.args.next_hop c.args.route.now c.args.targets.now c.in_ok-attributes.ensures.short c.requires.few in
    omega arith

pub returns-clause-read_again : goal.returns-clause-read_again
returns-clause-read_again c = spelled_by c.update_message.result (update_bytes (announced c.args.next_hop c.args.route.now c.args.targets.now)) _
    (of_attributes c.update_message.result c.deref.result.now (announced c.args.next_hop c.args.route.now c.args.targets.now)
    (c.deref.ensures.value ∙ c.in_ok-attributes.ensures.attributes) c.update_message.ensures)
    (announced_is_spelled c.args.next_hop c.args.route.now c.args.targets.now c.ranges.next_hop.fits c.in_ok-attributes.ensures.short c.requires.few
    c.in_ok-attributes.ensures.is_route c.in_ok-attributes.ensures.are_targets)
