use Rattle.mn_ldp_wire.proofs.Pdus.{cut_refused}
use Rattle.mn_ldp_wire.proofs.Causes.{none_begins_another}
use Rattle.mn_ldp_wire.proofs.laws.no_front_is_read.Goals as goal

pub returns-clause-refused : goal.returns-clause-refused
returns-clause-refused c = cut_refused

pub returns-clause-alone : goal.returns-clause-alone
returns-clause-alone c = none_begins_another
