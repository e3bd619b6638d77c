use Rattle.mn_frame_laws.proofs.Stays.{frames_stay}
use Rattle.mn_frame_laws.proofs.old_frames_stay.Goals as goal

pub returns : goal.returns
returns c = frames_stay
