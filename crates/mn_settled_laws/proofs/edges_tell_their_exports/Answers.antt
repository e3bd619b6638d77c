use Rattle.mn_settled_laws.proofs.Holding.{tell_their_exports}
use Rattle.mn_settled_laws.proofs.edges_tell_their_exports.Goals as goal

pub returns : goal.returns
returns c = tell_their_exports
