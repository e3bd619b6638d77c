use Rattle.mn_lsr.proofs.Wired.{wired}
use Rattle.mn_lsr.proofs.laws.routers_in_a_row_are_wired.Goals as goal

pub returns : goal.returns
returns c = wired
