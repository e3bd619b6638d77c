use Rattle.mn_files.proofs.Places.{one_number}
use Rattle.mn_files.proofs.laws.one_number.Goals as goal

pub returns : goal.returns
returns c = one_number
