use Rattle.mn_output_laws.proofs.Adding.{adding}
use Rattle.mn_output_laws.proofs.laws.each_step_adds_its_part.Goals as goal

pub returns : goal.returns
returns c = adding
