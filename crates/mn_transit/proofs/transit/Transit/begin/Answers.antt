use Rattle.std.proofs.Common.{None, ap}
use Rattle.mn_transit.specs.Moving.{Moving}
use Rattle.mn_transit.proofs.Going.{stands_quiet}
use Rattle.mn_transit.proofs.transit.Transit.begin.Goals as goal

pub returns-clause-still : goal.returns-clause-still
returns-clause-still c =
    λ topology given world packets step bytes quiet stands. stands_quiet topology given world _ _ packets step bytes
    (ap (λ (m : Moving). record m { delivered = None }) c.self.view_is) quiet stands
