use Rattle.mn_talk_laws.proofs.Alike.{tells_alike}
use Rattle.mn_talk_laws.proofs.an_edge_tells_alike.Goals as goal

pub returns : goal.returns
returns c = λ topology config done edge are. tells_alike topology config done edge are
