use Rattle.mn_transit.proofs.Labelled.{stands_kept}
use Rattle.mn_transit.proofs.laws.stands_where_labels_are_kept.Goals as goal

pub returns : goal.returns
returns c = stands_kept
