use Rattle.std.proofs.Common.{◌≡◌, []}
use Rattle.mn_spf_inc.specs.Mending.{state_of, work, IsGrowing, NoRest}
use Rattle.mn_spf_inc.proofs.mend.Mend.spread.Given as goal

abbrev pub invariant-loop-way : goal.invariant-loop-way
invariant-loop-way g l = record {
  growing : IsGrowing l.net l.root.0 NoRest (state_of l.self);
  none_cut : l.self.cut.items ≡ [];
}

abbrev pub decreases-loop-way : goal.decreases-loop-way
decreases-loop-way g l = work (state_of l.self)
