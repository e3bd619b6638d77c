use Rattle.mn_ldp_wire.proofs.Causes.{read_is_pdu}
use Rattle.mn_ldp_wire.proofs.laws.reading_is_the_grammar.Goals as goal

pub returns : goal.returns
returns c = read_is_pdu
