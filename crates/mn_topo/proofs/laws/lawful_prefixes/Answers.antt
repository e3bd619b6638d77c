use Rattle.mn_topo.proofs.Prefixes.{prefix_is, is_lawful}
use Rattle.mn_topo.proofs.laws.lawful_prefixes.Goals as goal

pub returns : goal.returns
returns c = λ p. (prefix_is p, is_lawful p)
