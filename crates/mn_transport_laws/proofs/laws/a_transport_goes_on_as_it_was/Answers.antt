use Rattle.mn_transport_laws.proofs.Others.{as-it-was}
use Rattle.mn_transport_laws.proofs.laws.a_transport_goes_on_as_it_was.Goals as goal

pub returns : goal.returns
returns c = λ topology journal tick step carried. as-it-was topology journal tick step carried
