use Rattle.mn_spf.proofs.Adjacent.{AreBelow}
use Rattle.mn_spf.proofs.adjacency.links_by_node.Given as goal

abbrev pub invariant-loop-number : goal.invariant-loop-number
invariant-loop-number l = AreBelow l.view l.number l.lists.items
