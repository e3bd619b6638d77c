use Rattle.mn_changing_laws.proofs.Stretch.{each_is_old_or_new}
use Rattle.mn_changing_laws.proofs.each_next_hop_is_the_old_or_the_new_one.Goals as goal

pub returns : goal.returns
returns c = each_is_old_or_new
