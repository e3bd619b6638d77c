use Rattle.mn_output_laws.proofs.Told.{is_told}
use Rattle.mn_output_laws.proofs.laws.a_table_is_told.Goals as goal

pub returns : goal.returns
returns c = is_told
