use Rattle.mn_course_laws.proofs.Pace.{expanded_paced}
use Rattle.mn_course_laws.proofs.laws.a_script_is_paced.Goals as goal

pub returns : goal.returns
returns c = λ t capture lines lawful fit. expanded_paced t lawful capture lines fit
