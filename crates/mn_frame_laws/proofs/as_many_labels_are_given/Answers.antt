use Rattle.mn_frame_laws.proofs.Spent.{as_many_given}
use Rattle.mn_frame_laws.proofs.as_many_labels_are_given.Goals as goal

pub returns : goal.returns
returns c = as_many_given
