use Rattle.mn_course_laws.proofs.Emptied.{all_have_arrived}
use Rattle.mn_course_laws.proofs.laws.what_was_to_arrive_has_arrived.Goals as goal

pub returns : goal.returns
returns c = λ t capture arrivals past lawful good early over. all_have_arrived t lawful capture arrivals past good early over
