use Rattle.mn_frame_laws.proofs.Anew.{gives_to_each, gives_to_no_other}
use Rattle.mn_frame_laws.proofs.each_attachment_has_a_label.Goals as goal

pub returns-clause-each : goal.returns-clause-each
returns-clause-each c = gives_to_each

pub returns-clause-no_other : goal.returns-clause-no_other
returns-clause-no_other c = gives_to_no_other
