use Rattle.mn_reuse_laws.proofs.Alike.{relabelled_alike}
use Rattle.mn_reuse_laws.proofs.a_node_before_a_step_has_the_labels_after_it.Goals as goal

pub returns : goal.returns
returns c = relabelled_alike
