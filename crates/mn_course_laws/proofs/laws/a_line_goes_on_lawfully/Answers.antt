use Rattle.mn_course_laws.proofs.Going.{played_goes}
use Rattle.mn_course_laws.proofs.laws.a_line_goes_on_lawfully.Goals as goal

pub returns : goal.returns
returns c = λ t capture past command lawful good fit. played_goes t lawful capture past command good fit
