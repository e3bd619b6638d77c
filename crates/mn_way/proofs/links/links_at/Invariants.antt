use Rattle.mn_way.proofs.Lists.{AreBelow}
use Rattle.mn_way.proofs.links.links_at.Given as goal

abbrev pub invariant-loop-number : goal.invariant-loop-number
invariant-loop-number l = AreBelow l.ends l.nodes l.node.0 l.number l.links.items
