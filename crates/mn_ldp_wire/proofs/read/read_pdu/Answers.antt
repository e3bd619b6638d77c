use Rattle.mn_ldp_wire.proofs.Pdus.{accepted, accepted_lawful, answered}
use Rattle.mn_ldp_wire.proofs.read.read_pdu.Goals as goal

pub returns-clause-accepts : goal.returns-clause-accepts
returns-clause-accepts c = accepted c.args.bytes.now c.whole.result (record { below = λ i. (c.type_inv.bytes i).fits }) c.whole.ensures.reading

pub returns-clause-every : goal.returns-clause-every
returns-clause-every c = λ from messages p. answered c.args.bytes.now c.whole.result from messages c.whole.ensures.reading p

pub returns-clause-lawful : goal.returns-clause-lawful
returns-clause-lawful c = accepted_lawful c.args.bytes.now c.whole.result (record { below = λ i. (c.type_inv.bytes i).fits }) c.whole.ensures.reading
