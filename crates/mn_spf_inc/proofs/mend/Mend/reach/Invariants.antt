use Rattle.std.proofs.Common.{◌≡◌, ◌+◌}
use Rattle.mn_spf_inc.specs.Mending.{state_of, IsGrowing, IntoCutOrFrom}
use Rattle.mn_spf_inc.proofs.mend.Mend.reach.Given as goal

-- the ways over the links from this place on are still to be offered
abbrev pub invariant-loop-number : goal.invariant-loop-number
invariant-loop-number g l = record {
  growing : IsGrowing l.net l.root.0 (IntoCutOrFrom l.net l.fn.self.cut.items l.node.0 l.number-items l.number-index) (state_of l.self);
  cut : l.self.cut.items ≡ l.fn.self.cut.items;
  steps : l.steps ≡ l.fn.steps + (1 + l.number-index);
}
