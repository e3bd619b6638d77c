use Rattle.mn_lsr.proofs.Numbers.{by-ends}
use Rattle.mn_lsr.proofs.parts.Parts.hear_ldp.Goals as goal

pub hear_all-requires-clause-numbers : goal.hear_all-requires-clause-numbers
hear_all-requires-clause-numbers c = by-ends c.args.self.now 0 c.requires.numbers
