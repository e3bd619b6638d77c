use Rattle.mn_course_laws.proofs.Left.{none_left_of_all}
use Rattle.mn_course_laws.proofs.laws.nothing_is_left.Goals as goal

pub returns : goal.returns
returns c = none_left_of_all
