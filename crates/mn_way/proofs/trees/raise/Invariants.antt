use Rattle.std.proofs.Common.{◌≡◌, length, false}
use Rattle.mn_way.specs.Switched.{IsSameBut}
use Rattle.mn_way.proofs.Turning.{AreRaised}
use Rattle.mn_way.proofs.trees.raise.Given as goal

abbrev pub invariant-loop-number : goal.invariant-loop-number
invariant-loop-number l = record {
  same : IsSameBut l.fn.tree l.tree;
  up : AreRaised l.number (length l.fn.tree.ends) l.tree.up;
  sound : l.tree.failed ≡ false;
}
