use Rattle.std.proofs.Common.{◌≡◌, ◌+◌}
use Rattle.mn_spf_inc.proofs.Spared.{AreNotOver}
use Rattle.mn_spf_inc.proofs.mend.Mend.is_held.Given as goal

-- the way comes over none of the links so far
abbrev pub invariant-loop-number : goal.invariant-loop-number
invariant-loop-number g l = record {
  none : AreNotOver l.net l.root.0 l.self.tree l.way l.number-items l.number-index;
  steps : l.steps ≡ l.fn.steps + (1 + l.number-index);
}
