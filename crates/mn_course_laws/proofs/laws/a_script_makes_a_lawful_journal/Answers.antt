use Rattle.mn_course_laws.proofs.Entered.{lawful_run}
use Rattle.mn_course_laws.proofs.laws.a_script_makes_a_lawful_journal.Goals as goal

pub returns : goal.returns
returns c = λ t capture lines lawful fit. lawful_run t lawful capture lines fit
