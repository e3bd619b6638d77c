use Rattle.std.proofs.Common.{refl}
use Rattle.mn_course_laws.specs.Course.{all}
use Rattle.mn_join.proofs.line.all_items.Goals as goal

pub returns : goal.returns
unfolding all
returns c = refl
