use Rattle.mn_spf.proofs.Adjacent.{AreBelow}
use Rattle.mn_spf_inc.specs.Nets.{all_up}
use Rattle.mn_spf_inc.proofs.net.links_by_node.Given as goal

abbrev pub invariant-loop-number : goal.invariant-loop-number
invariant-loop-number l = AreBelow (all_up l.nodes l.ends) l.number l.lists.items
