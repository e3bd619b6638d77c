-- The sum is that of the header with its checksum as zero, and the second writing of the field counts.
use Rattle.std.proofs.Common.{◌-◌}
use Rattle.mn_ipv4.specs.Header.{checksum_for}
use Rattle.mn_ipv4.proofs.Laws.{header_length-with_checksum, with_checksum-with_checksum}
use Rattle.mn_ipv4.proofs.checksum.renew_checksum.Goals as goal

pub returns : goal.returns
unfolding checksum_for
returns c =
    let b = c.args.bytes.now in
    let zeroed = c.put_checksum.ensures in
    let same = header_length-with_checksum b 0 in
    let twice = with_checksum-with_checksum b 0 (65535 - c.ones_complement_sum-checksum.result) in
    let sum = c.ones_complement_sum-checksum.ensures in
    let written = c.put_checksum-2.ensures in
    cc
