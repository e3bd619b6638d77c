use Rattle.std.proofs.Common.{◌≡◌, map, take}
use Rattle.std.specs.Prelude.{length}
use Rattle.std.specs.List.{flat_map, range_with_len}
use Rattle.mn_candidates.specs.Routes.{held_as, routes_over}
use Rattle.mn_candidates.proofs.routes.routes_for.Given as goal

abbrev pub invariant-loop-site : goal.invariant-loop-site
invariant-loop-site l = map held_as l.routes.items ≡ flat_map (routes_over l.topology l.vrf.0) (take l.site (range_with_len 0 (length l.topology.sites)))
