use Rattle.mn_reflect_drain_laws.proofs.Bound.{drain_is_bounded}
use Rattle.mn_reflect_drain_laws.proofs.a_drain_with_reflectors_is_bounded.Goals as goal

pub returns : goal.returns
returns c = λ topology reflectors before hearings h are peers drain. drain_is_bounded topology reflectors are before hearings h peers drain
