use Rattle.std.proofs.Common.{rules}
use Rattle.mn_bindings.specs.News.{so_far}
use Rattle.mn_bindings.proofs.Ranges.{map_range-more}
use Rattle.mn_bindings.proofs.bindings.Bound.every.Goals as goal

pub loop-fec-preserved : goal.loop-fec-preserved
loop-fec-preserved c = map_range-more (so_far c.args.self.now) _ _ _ c.loop-fec.invariant (search (rules, c.in_ok-push.ensures.items, c.so_far.ensures))
