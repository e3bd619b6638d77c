use Rattle.mn_drain_laws.proofs.Witness.{they_drain}
use Rattle.mn_drain_laws.proofs.two_links_drain.Goals as goal

pub returns : goal.returns
returns c = they_drain
