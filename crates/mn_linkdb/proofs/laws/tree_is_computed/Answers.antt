use Rattle.mn_linkdb.proofs.OneTree.{dist_computed, next_computed}
use Rattle.mn_linkdb.proofs.laws.tree_is_computed.Goals as goal

pub returns-clause-dist : goal.returns-clause-dist
returns-clause-dist c =
    λ wiring view root to tree t ok here p. dist_computed wiring view root here (λ to. c.least_walk.ensures wiring view to ok root here)
    (λ to. c.next_hop.ensures wiring view to ok root here) to tree t p

pub returns-clause-next : goal.returns-clause-next
returns-clause-next c =
    λ wiring view root to tree t ok here p. next_computed wiring view root here (λ to. c.least_walk.ensures wiring view to ok root here)
    (λ to. c.next_hop.ensures wiring view to ok root here) to tree t p
