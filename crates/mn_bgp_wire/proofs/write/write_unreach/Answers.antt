use Rattle.std.proofs.Common.{◌∙◌}
use Rattle.mn_bgp_wire.specs.Written.{withdrawn, update_bytes}
use Rattle.mn_bgp_wire.proofs.Spelling.{withdrawn_is_spelled, spelled_by, of_attributes}
use Rattle.mn_bgp_wire.proofs.write.write_unreach.Goals as goal

pub returns-clause-read_again : goal.returns-clause-read_again
returns-clause-read_again c = spelled_by c.update_message.result (update_bytes (withdrawn c.args.rd c.args.prefix)) _
    (of_attributes c.update_message.result c.deref.result.now (withdrawn c.args.rd c.args.prefix)
    (c.deref.ensures.value ∙ c.in_ok-attributes.ensures.attributes) c.update_message.ensures)
    (withdrawn_is_spelled c.args.rd c.args.prefix c.in_ok-attributes.ensures.short c.in_ok-attributes.ensures.is_route)
