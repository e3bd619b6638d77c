use Rattle.mn_bgp_wire.specs.Written.{open_bytes}
use Rattle.mn_bgp_wire.proofs.Spelling.{open_is_spelled, spelled_by, same_bytes}
use Rattle.mn_bgp_wire.proofs.write.write_open.Goals as goal

pub returns-clause-read_again : goal.returns-clause-read_again
returns-clause-read_again c =
    spelled_by c.from_slice.result (open_bytes c.args.asn c.args.id) _
    (same_bytes c.from_slice.result c.open_message.result (open_bytes c.args.asn c.args.id) c.open_message.ensures c.from_slice.ensures.items)
    (open_is_spelled c.args.asn c.args.id c.ranges.asn.fits c.ranges.id.fits)
