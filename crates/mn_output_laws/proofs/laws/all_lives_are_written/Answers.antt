use Rattle.mn_output_laws.proofs.Lives as lives
use Rattle.mn_output_laws.proofs.laws.all_lives_are_written.Goals as goal

pub returns : goal.returns
returns c = λ topology capture entries l dir lawful journal below. lives.all_lives_are_written topology capture lawful l dir below entries journal
