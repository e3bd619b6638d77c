use Rattle.mn_reuse_laws.proofs.Over.{are_sound}
use Rattle.mn_reuse_laws.proofs.no_label_means_two_things.Goals as goal

pub returns : goal.returns
returns c = are_sound
