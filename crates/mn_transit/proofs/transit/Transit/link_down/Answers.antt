use Rattle.mn_transit.proofs.Counts.{counts_begun, counts_then}
use Rattle.mn_transit.proofs.Going.{stands_down}
use Rattle.mn_transit.proofs.transit.Transit.link_down.Goals as goal

pub returns-clause-moved : goal.returns-clause-moved
returns-clause-moved c =
    λ given world packets bytes. stands_down _ given world _ _ _ _ packets c.args.link bytes c.begin.ensures.begun c.cut.ensures.cut c.cut-2.ensures.cut

pub returns-clause-counts : goal.returns-clause-counts
returns-clause-counts c =
    counts_then _ _ _ 0 0 0 0 0 0 (counts_begun _ _ c.begin.ensures.begun) (counts_then _ _ _ 0 0 0 0 0 0 c.cut.ensures.counts c.cut-2.ensures.counts)
