use Rattle.mn_way_laws.proofs.Paths.{keeps-path}
use Rattle.mn_way_laws.proofs.a_path_that_is_spared_stays.Goals as goal

pub returns : goal.returns
returns c = keeps-path
