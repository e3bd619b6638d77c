use Rattle.mn_talk_laws.proofs.Witness.{joined_by_two}
use Rattle.mn_talk_laws.proofs.two_edges_are_joined_by_two_reflectors.Goals as goal

pub returns : goal.returns
returns c = joined_by_two
