use Rattle.std.proofs.Common.{◌≡◌, ◌+◌, ◌==◌, count_by, length}
use Rattle.mn_script.proofs.read.feeds.Given as goal

abbrev pub invariant-parts : goal.invariant-parts
invariant-parts l = l.feeds + count_by (λ byte. byte == 10) l.rest ≡ count_by (λ byte. byte == 10) l.bytes

abbrev pub decreases-parts : goal.decreases-parts
decreases-parts l = length l.rest
