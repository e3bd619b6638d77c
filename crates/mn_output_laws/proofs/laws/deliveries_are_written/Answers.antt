use Rattle.mn_output_laws.proofs.Deliveries as deliveries
use Rattle.mn_output_laws.proofs.laws.deliveries_are_written.Goals as goal

pub returns : goal.returns
returns c = deliveries.deliveries_are_written
