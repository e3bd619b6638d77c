use Rattle.mn_entry.proofs.Told.{one_or_the_other}
use Rattle.mn_entry.proofs.laws.a_fitting_entry_has_a_maker.Goals as goal

pub returns : goal.returns
returns c = one_or_the_other
