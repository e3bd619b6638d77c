use Rattle.std.proofs.Common.{map, take}
use Rattle.mn_candidates.specs.Routes.{held_as, AreFor}
use Rattle.mn_candidates.proofs.routes.candidates.Given as goal

abbrev pub invariant-loop-route : goal.invariant-loop-route
invariant-loop-route l = AreFor l.address (map held_as (take l.route-index l.routes)) (map held_as l.found.items)
