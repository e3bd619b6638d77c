use Rattle.mn_course_laws.proofs.Pace.{played_paced}
use Rattle.mn_course_laws.proofs.laws.a_line_is_paced.Goals as goal

pub returns : goal.returns
returns c = λ t capture past command lawful good. played_paced t lawful capture past command good
