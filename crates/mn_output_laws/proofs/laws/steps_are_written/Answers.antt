use Rattle.mn_output_laws.proofs.Adding as adding
use Rattle.mn_output_laws.proofs.laws.steps_are_written.Goals as goal

pub returns : goal.returns
returns c = adding.steps_are_written
