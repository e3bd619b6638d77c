use Rattle.mn_course_laws.proofs.Draining.{drains_all}
use Rattle.mn_course_laws.proofs.laws.a_whole_drain_settles.Goals as goal

pub returns : goal.returns
returns c = λ t capture past lawful good early. drains_all t lawful capture past good early
