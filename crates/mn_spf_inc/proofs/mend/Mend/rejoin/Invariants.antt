use Rattle.std.proofs.Common.{◌<◌, vec_len}
use Rattle.std.specs.Prelude.{All}
use Rattle.mn_spf_inc.specs.Mending.{state_of, IsGrowing, IntoCut}
use Rattle.mn_spf_inc.proofs.mend.Mend.rejoin.Given as goal

abbrev pub invariant-loop-node : goal.invariant-loop-node
invariant-loop-node g l = record {
  growing : IsGrowing l.net l.root.0 (IntoCut l.net l.self.cut.items) (state_of l.self);
  there : All (λ node. node.0 < l.net.nodes) l.self.cut.items;
}

abbrev pub decreases-loop-node : goal.decreases-loop-node
decreases-loop-node g l = vec_len l.self.cut
