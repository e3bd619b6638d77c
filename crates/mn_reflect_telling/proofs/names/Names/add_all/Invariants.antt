use Rattle.std.proofs.Common.{◌≡◌}
use Rattle.mn_reflect_world_laws.specs.Choice.{names_in}
use Rattle.mn_reflect_telling.specs.Names.{with_names}
use Rattle.mn_reflect_telling.proofs.names.Names.add_all.Given as goal

-- the names to come end it
abbrev pub invariant-loop-offered : goal.invariant-loop-offered
invariant-loop-offered l = with_names (names_in l.offered-iterator) l.self ≡ with_names (names_in l.offers) l.fn.self
