use Rattle.std.proofs.Common.{rules}
use Rattle.mn_text.specs.Addresses.{address_of}
use Rattle.mn_text.proofs.Only.{address_only}
use Rattle.mn_text.proofs.read.address_of.Goals as goal

pub returns-clause-text : goal.returns-clause-text
unfolding address_of
returns-clause-text c = address_only _ _ (search rules)
