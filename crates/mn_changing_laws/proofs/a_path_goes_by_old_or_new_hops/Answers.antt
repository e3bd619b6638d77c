use Rattle.mn_changing_laws.proofs.Paths.{goes_by_old_or_new}
use Rattle.mn_changing_laws.proofs.a_path_goes_by_old_or_new_hops.Goals as goal

pub returns : goal.returns
returns c = goes_by_old_or_new
