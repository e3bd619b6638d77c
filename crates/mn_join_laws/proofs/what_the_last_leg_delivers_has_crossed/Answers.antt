use Rattle.mn_join_laws.proofs.Arriving.{arrive_by_legs}
use Rattle.mn_join_laws.proofs.what_the_last_leg_delivers_has_crossed.Goals as goal

pub returns : goal.returns
returns c = arrive_by_legs
