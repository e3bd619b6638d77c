use Rattle.std.proofs.Common.{rules}
use Rattle.mn_text.specs.Addresses.{slashed_of}
use Rattle.mn_text.proofs.Only.{slashed_only}
use Rattle.mn_text.proofs.read.slashed_of.Goals as goal

pub returns-clause-text : goal.returns-clause-text
unfolding slashed_of
returns-clause-text c = slashed_only _ _ (search rules)
