use Rattle.std.proofs.Common.{◌≡◌, ◌≤◌, ◌+◌}
use Rattle.mn_spf_inc.specs.Mending.{state_of, work, IsGrowing, IsKnown, FromPlace}
use Rattle.mn_spf_inc.proofs.mend.Mend.follow.Given as goal

-- the links from this place on are still to be followed
abbrev pub invariant-loop-number : goal.invariant-loop-number
invariant-loop-number g l = record {
  growing : IsGrowing l.net l.root.0 (FromPlace l.way.to l.number-items l.number-index) (state_of l.self);
  known : IsKnown l.net l.root.0 l.self.tree l.way;
  less : work (state_of l.self) ≤ work (state_of l.fn.self);
  cut : l.self.cut.items ≡ l.fn.self.cut.items;
  steps : l.steps ≡ l.fn.steps + (1 + l.number-index);
}
