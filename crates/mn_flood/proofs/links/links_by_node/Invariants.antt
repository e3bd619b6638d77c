use Rattle.mn_flood.proofs.Wired.{AreBelow}
use Rattle.mn_flood.proofs.links.links_by_node.Given as goal

abbrev pub invariant-loop-number : goal.invariant-loop-number
invariant-loop-number l = AreBelow (record { loopbacks = l.loopbacks; ends = l.ends }) l.number l.lists.items
