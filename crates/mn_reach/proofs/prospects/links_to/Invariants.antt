use Rattle.std.proofs.Common.{◌≡◌, [], map, take}
use Rattle.std.specs.Prelude.{unwrap_or}
use Rattle.std.specs.List.{flat_map}
use Rattle.mn_wiring.specs.Wiring.{Wiring}
use Rattle.mn_way.specs.Way.{links_on, way}
use Rattle.mn_way.specs.Switched.{IsOver, edge_at}
use Rattle.mn_reach.proofs.prospects.links_to.Given as goal

abbrev pub invariant-loop-candidate : goal.invariant-loop-candidate
invariant-loop-candidate l =
    (wiring : Wiring) → IsOver wiring l.ways → map (λ link. link.0) l.links.items
    ≡ flat_map (λ candidate. links_on (unwrap_or (way wiring l.ways.up l.home.0 (edge_at l.ways candidate.place)) [])) (take l.candidate-index l.candidates)
