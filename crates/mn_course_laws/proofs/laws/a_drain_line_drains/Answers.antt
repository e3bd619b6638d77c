use Rattle.mn_course_laws.proofs.Draining.{line_drains_on}
use Rattle.mn_course_laws.proofs.laws.a_drain_line_drains.Goals as goal

pub returns : goal.returns
returns c = λ t capture past most lawful good early. line_drains_on t lawful capture most past good early
