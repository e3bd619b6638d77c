-- A good packet has a TTL.
use Rattle.std.proofs.Common.{arith}
use Rattle.mn_ipv4.proofs.Laws.{IsGood-from_good}
use Rattle.mn_ipv4.proofs.lifetime.age.Goals as goal

pub bounds-bytes-8 : goal.bounds-bytes-8
bounds-bytes-8 c = let g = IsGood-from_good c.args.bytes.now c.requires.is_good in omega arith
