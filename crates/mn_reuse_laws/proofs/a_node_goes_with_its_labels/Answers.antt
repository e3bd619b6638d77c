use Rattle.mn_reuse_laws.proofs.Alike.{goes_with_its_labels}
use Rattle.mn_reuse_laws.proofs.a_node_goes_with_its_labels.Goals as goal

pub returns : goal.returns
returns c = goes_with_its_labels
