use Rattle.std.proofs.Common.{◌≡◌, None, replicate}
use Rattle.mn_join.proofs.joints.none_joined.Given as goal

abbrev pub invariant-loop-site : goal.invariant-loop-site
invariant-loop-site l = l.partners.items ≡ replicate l._site None
