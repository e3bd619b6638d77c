use Rattle.mn_failure_laws.proofs.Told.{of_topology}
use Rattle.mn_failure_laws.proofs.candidates_are_of_the_topology.Goals as goal

pub returns : goal.returns
returns c = of_topology
