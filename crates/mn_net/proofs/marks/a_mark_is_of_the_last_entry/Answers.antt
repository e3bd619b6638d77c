use Rattle.mn_net.proofs.Still.{marks_last}
use Rattle.mn_net.proofs.marks.a_mark_is_of_the_last_entry.Goals as goal

pub returns : goal.returns
returns c = marks_last
