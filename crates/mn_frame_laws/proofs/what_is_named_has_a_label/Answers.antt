use Rattle.mn_frame_laws.proofs.Named.{all_have_labels}
use Rattle.mn_frame_laws.proofs.what_is_named_has_a_label.Goals as goal

pub returns : goal.returns
returns c = all_have_labels
