use Rattle.mn_output_laws.proofs.Sendings as sendings
use Rattle.mn_output_laws.proofs.laws.each_packet_has_its_line.Goals as goal

pub returns-clause-sent : goal.returns-clause-sent
returns-clause-sent c = sendings.each_packet_has_its_line

pub returns-clause-told : goal.returns-clause-told
returns-clause-told c = sendings.all_are_told
