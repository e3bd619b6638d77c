use Rattle.mn_changing_laws.proofs.MicroLoopRun.{the_law_is_met}
use Rattle.mn_changing_laws.proofs.the_law_is_met_in_two_runs.Goals as goal

pub returns : goal.returns
returns c = the_law_is_met
