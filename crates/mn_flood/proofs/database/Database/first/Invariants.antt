use Rattle.std.proofs.Common.{◌≡◌, map}
use Rattle.std.specs.List.{range_with_len}
use Rattle.mn_flood_laws.specs.Flood.{first_of}
use Rattle.mn_flood.proofs.database.Database.first.Given as goal

abbrev pub invariant-loop-origin : goal.invariant-loop-origin
invariant-loop-origin l = l.adverts.items ≡ map (first_of l.node.0) (range_with_len 0 l.origin)
