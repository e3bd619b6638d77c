use Rattle.mn_stack.proofs.Unstacking.{frame_of-written}
use Rattle.mn_stack.proofs.laws.written_is_read.Goals as goal

pub returns : goal.returns
returns c = frame_of-written
