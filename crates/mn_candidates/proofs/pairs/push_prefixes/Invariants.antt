use Rattle.std.proofs.Common.{take}
use Rattle.mn_candidates.specs.Pairs.{Adds}
use Rattle.mn_candidates.proofs.pairs.push_prefixes.Given as goal

abbrev pub invariant-loop-prefix : goal.invariant-loop-prefix
invariant-loop-prefix l = Adds l.site.0 (take l.prefix-index l.prefixes) l.fn.seen.items l.seen.items l.fn.pairs.items l.pairs.items
