use Rattle.mn_reuse_laws.proofs.Flying.{frames_keep}
use Rattle.mn_reuse_laws.proofs.frames_keep_their_labels.Goals as goal

pub returns : goal.returns
returns c = frames_keep
