use Rattle.mn_lsr.proofs.Numbers.{all-have}
use Rattle.mn_lsr.proofs.parts.Parts.has_numbers.Goals as goal

pub returns : goal.returns
returns c = λ yes. all-have c.args.self.now (c.have_numbers.ensures yes)
