use Rattle.mn_output_laws.proofs.Tellings as tellings
use Rattle.mn_output_laws.proofs.laws.tellings_are_written.Goals as goal

pub returns : goal.returns
returns c = λ topology capture entries edge peer lawful journal apart. tellings.tellings_are_written topology capture lawful edge peer apart entries journal
