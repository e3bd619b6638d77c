use Rattle.mn_changing_laws.proofs.MicroLoop.{one_has_a_loop}
use Rattle.mn_changing_laws.proofs.of_two_networks_one_has_a_loop.Goals as goal

pub returns : goal.returns
returns c = one_has_a_loop
