use Rattle.mn_frame_laws.proofs.Keeping.{frames_keep_labels}
use Rattle.mn_frame_laws.proofs.flying_frames_keep_their_labels.Goals as goal

pub returns : goal.returns
returns c = frames_keep_labels
