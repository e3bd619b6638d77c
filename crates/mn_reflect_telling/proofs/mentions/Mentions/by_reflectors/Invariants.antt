use Rattle.std.proofs.Common.{◌≡◌, drop}
use Rattle.mn_reflect_world_laws.specs.Choice.{Row, reflected_to}
use Rattle.mn_reflect_telling.specs.Mentions.{numbers_of, ShowsIn}
use Rattle.mn_reflect_telling.specs.Names.{named}
use Rattle.mn_reflect_telling.proofs.mentions.Mentions.by_reflectors.Given as goal

-- the reflectors to come decide
abbrev pub invariant-loop-reflector : goal.invariant-loop-reflector
invariant-loop-reflector l = (row : Row) → ShowsIn l.self row →
    reflected_to (numbers_of l.reflectors) row l.node.0 (named l.self.vrf l.self.prefix)
    ≡ reflected_to (numbers_of (drop l.reflector-index l.reflectors)) row l.node.0 (named l.self.vrf l.self.prefix)
