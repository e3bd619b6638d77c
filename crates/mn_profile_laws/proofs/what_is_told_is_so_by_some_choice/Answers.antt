use Rattle.mn_profile_laws.proofs.Telling.{told_of_choices}
use Rattle.mn_profile_laws.proofs.what_is_told_is_so_by_some_choice.Goals as goal

pub returns : goal.returns
returns c = told_of_choices
