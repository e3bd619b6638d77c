use Rattle.mn_flood_laws.proofs.ThreeInARow.{is_flooded}
use Rattle.mn_flood_laws.proofs.three_in_a_row_are_flooded.Goals as goal

pub returns : goal.returns
returns c = is_flooded
