use Rattle.mn_linkdb.proofs.OneTree.{one_tree}
use Rattle.mn_linkdb.proofs.laws.one_tree.Goals as goal

pub returns : goal.returns
returns c = one_tree
