use Rattle.mn_profile_laws.proofs.Run.{one_fate}
use Rattle.mn_profile_laws.proofs.by_the_choices_of_a_run_there_is_one_way.Goals as goal

pub returns : goal.returns
returns c = one_fate
