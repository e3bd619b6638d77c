use Rattle.std.proofs.Common.{arith}
use Rattle.mn_reach.proofs.Ending.{falls_on}
use Rattle.mn_reach.proofs.verdict.Verdict.end_along.Goals as goal

pub returns-else-nodes-ttl : goal.returns-else-nodes-ttl
returns-else-nodes-ttl c = λ route e.
    falls_on route c.args.ttl c.args.self.now.path.items c.truncate.new.self.items c.index.result.now c.requires.least
    (omega arith) c.index.ensures c.truncate.ensures.items
