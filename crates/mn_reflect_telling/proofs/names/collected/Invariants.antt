use Rattle.std.proofs.Common.{◌≡◌, [], drop}
use Rattle.std.specs.List.{flat_map}
use Rattle.mn_reflect_world_laws.specs.Choice.{names_in}
use Rattle.mn_reflect_telling.specs.Names.{with_names}
use Rattle.mn_reflect_telling.proofs.names.collected.Given as goal

-- the names to come end it
abbrev pub invariant-loop-offers : goal.invariant-loop-offers
invariant-loop-offers l = with_names (flat_map names_in (drop l.offers-index l.heard)) l.names ≡ with_names (flat_map names_in l.heard) []
