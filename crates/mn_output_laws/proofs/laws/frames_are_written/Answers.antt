use Rattle.mn_output_laws.proofs.Frames as frames
use Rattle.mn_output_laws.proofs.laws.frames_are_written.Goals as goal

pub returns : goal.returns
returns c = λ topology capture entries l. frames.frames_are_written topology capture l entries
