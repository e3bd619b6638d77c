use Rattle.mn_flood_laws.proofs.ThreeInARow.{are_run}
use Rattle.mn_flood_laws.proofs.three_in_a_row_are_run.Goals as goal

pub returns : goal.returns
returns c = are_run
