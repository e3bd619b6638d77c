use Rattle.std.proofs.Common.{◌≡◌}
use Rattle.mn_transport.proofs.Life.{longest_of}
use Rattle.mn_transport.proofs.sites.longest_life.Given as goal

abbrev pub invariant-loop-number : goal.invariant-loop-number
invariant-loop-number l = l.longest ≡ longest_of l.topology l.node.0 l.number
