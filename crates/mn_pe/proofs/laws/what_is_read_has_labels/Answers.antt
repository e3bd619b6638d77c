use Rattle.mn_pe.proofs.Read.{read_labels}
use Rattle.mn_pe.proofs.laws.what_is_read_has_labels.Goals as goal

pub returns : goal.returns
returns c = read_labels
