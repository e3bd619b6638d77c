use Rattle.mn_course_laws.proofs.Nexts.{what_is_next}
use Rattle.mn_course_laws.proofs.laws.what_comes_next_can_be_delivered.Goals as goal

pub returns : goal.returns
returns c = λ t es ps kind limit lawful journal. what_is_next t lawful es ps journal kind limit
