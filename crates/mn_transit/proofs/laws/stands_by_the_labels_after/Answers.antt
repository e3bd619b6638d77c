use Rattle.mn_transit.proofs.Labelled.{stands_after}
use Rattle.mn_transit.proofs.laws.stands_by_the_labels_after.Goals as goal

pub returns : goal.returns
returns c = stands_after
