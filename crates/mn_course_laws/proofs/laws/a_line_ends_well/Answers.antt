use Rattle.mn_course_laws.proofs.Stopped.{played_ends}
use Rattle.mn_course_laws.proofs.laws.a_line_ends_well.Goals as goal

pub returns : goal.returns
returns c = λ t capture past command lawful good. played_ends t lawful capture past command good
