use Rattle.std.proofs.Common.{◌≡◌, ◌+◌, ◌%◌, length}
use Rattle.mn_ipv4.specs.Checksum.{words}
use Rattle.mn_ipv4.proofs.Sum.{total}
use Rattle.mn_ipv4.proofs.checksum.ones_complement_sum.Given as goal

abbrev pub invariant-loop-rest : goal.invariant-loop-rest
invariant-loop-rest l = (l.sum + total (words l.rest) ≡ total (words l.header)) × (length l.rest % 2 ≡ 0)

abbrev pub decreases-loop-rest : goal.decreases-loop-rest
decreases-loop-rest l = length l.rest
