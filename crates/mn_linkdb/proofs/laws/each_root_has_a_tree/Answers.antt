use Rattle.mn_linkdb.proofs.OneTree.{computed}
use Rattle.mn_linkdb.proofs.laws.each_root_has_a_tree.Goals as goal

pub returns : goal.returns
returns c =
    λ wiring view root ok here. computed wiring view root here (λ to. c.least_walk.ensures wiring view to ok root here)
    (λ to. c.next_hop.ensures wiring view to ok root here)
