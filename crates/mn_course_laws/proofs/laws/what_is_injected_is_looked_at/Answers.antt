use Rattle.mn_course_laws.proofs.Allowed.{these_are_injected}
use Rattle.mn_course_laws.proofs.laws.what_is_injected_is_looked_at.Goals as goal

pub returns : goal.returns
returns c = these_are_injected
