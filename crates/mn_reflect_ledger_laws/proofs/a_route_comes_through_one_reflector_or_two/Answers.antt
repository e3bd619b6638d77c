use Rattle.mn_reflect_ledger_laws.proofs.Through.{comes_through}
use Rattle.mn_reflect_ledger_laws.proofs.a_route_comes_through_one_reflector_or_two.Goals as goal

pub returns : goal.returns
returns c = λ topology reflectors steps are node peer offer said. comes_through topology reflectors are steps node peer offer said
