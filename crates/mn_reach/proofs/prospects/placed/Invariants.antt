use Rattle.std.proofs.Common.{◌≡◌, All, map, take}
use Rattle.mn_reach.specs.Plans.{IsPlaced, numbers_of}
use Rattle.mn_reach.proofs.prospects.placed.Given as goal

abbrev pub invariant-loop-route : goal.invariant-loop-route
invariant-loop-route l = record {
  routes : map (λ candidate. candidate.route) l.found.items ≡ take l.route-index l.routes;
  placed : All (IsPlaced (numbers_of l.edges)) l.found.items;
}
