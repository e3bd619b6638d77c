use Rattle.std.proofs.Common.{◌≡◌}
use Rattle.std.specs.List.{AllByRecursion}
use Rattle.mn_reflect_world_laws.specs.Choice.{row_at, names_in}
use Rattle.mn_reflect_world_laws.specs.Goes.{decide_all}
use Rattle.mn_reflect.specs.Doing.{MayTurn, changed_edge}
use Rattle.mn_reflect_telling.specs.Passing.{IsPassable}
use Rattle.mn_reflect.proofs.reflect.Reflect.decide_gone.Given as goal

-- what is decided on the routes to come ends it
abbrev pub invariant-loop-offered : goal.invariant-loop-offered
invariant-loop-offered l = record {
  decided : changed_edge l.edge.0 (decide_all l.fn.self.topology l.fn.self.reflectors (row_at l.fn.self.heard l.edge.0) l.edge.0 (names_in l.offered-iterator))
      l.self
      ≡ changed_edge l.edge.0 (decide_all l.fn.self.topology l.fn.self.reflectors (row_at l.fn.self.heard l.edge.0) l.edge.0 (names_in l.gone)) l.fn.self;
  same : l.self ≡ record l.fn.self { edges = l.self.edges };
  may : MayTurn l.self l.edge.0;
  passable : AllByRecursion (IsPassable l.fn.self.topology) l.offered-iterator;
}
