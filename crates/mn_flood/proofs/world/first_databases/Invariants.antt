use Rattle.std.proofs.Common.{◌≡◌, map}
use Rattle.std.specs.List.{range_with_len}
use Rattle.mn_flood_laws.specs.Flood.{first_of}
use Rattle.mn_flood.proofs.world.first_databases.Given as goal

abbrev pub invariant-loop-node : goal.invariant-loop-node
invariant-loop-node l = l.kept.items ≡ map (λ node. map (first_of node) (range_with_len 0 l.nodes)) (range_with_len 0 l.node)
