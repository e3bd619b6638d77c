use Rattle.mn_reuse_laws.proofs.Relabelling.{goes_alike}
use Rattle.mn_reuse_laws.proofs.a_node_goes_by_mappings_and_not_by_labels.Goals as goal

pub returns : goal.returns
returns c = goes_alike
