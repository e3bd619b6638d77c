use Rattle.std.proofs.Common.{◌≡◌, ◌+◌, ◌≤◌}
use Rattle.std.specs.BinaryHeap.{heap_len}
use Rattle.mn_spf_inc.specs.Mending.{state_of, reached, IsCutting, HeldBy}
use Rattle.mn_spf_inc.proofs.mend.Mend.cut_off.Given as goal

-- the nodes at the links from this place on are still to be doubted
abbrev pub invariant-loop-number : goal.invariant-loop-number
invariant-loop-number g l = record {
  cutting : IsCutting l.net l.root.0 (HeldBy l.net l.root.0 l.way l.number-items l.number-index) (state_of l.self);
  reached : reached l.self.tree + 1 ≡ reached l.fn.self.tree;
  queued : heap_len l.self.queue ≤ heap_len l.fn.self.queue + l.number-index;
  steps : l.steps ≡ l.fn.steps + l.number-index;
}
