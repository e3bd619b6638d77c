use Rattle.std.proofs.Common.{◌≡◌, length}
use Rattle.std.specs.List.{AllByRecursion}
use Rattle.mn_reflect_world_laws.specs.Choice.{names_in}
use Rattle.mn_reflect_world_laws.specs.Letters.{reflector_news}
use Rattle.mn_reflect_telling.specs.Mentions.{numbers_of, row_in, row_with}
use Rattle.mn_reflect_telling.specs.Passing.{IsPassable}
use Rattle.mn_reflect_telling.specs.Telling.{posted}
use Rattle.mn_reflect_telling.proofs.teller.Teller.tell_gone.Given as goal

-- what is sent of the routes to come ends it
abbrev pub invariant-loop-offered : goal.invariant-loop-offered
invariant-loop-offered l = record {
  told : posted (reflector_news l.self.topology.now (numbers_of l.self.reflectors.now) l.self.node.0 l.peers (row_with l.heard l.peer.0 l.gone) (row_in l.heard)
      (names_in l.offered-iterator)) l.mail
      ≡ posted (reflector_news l.self.topology.now (numbers_of l.self.reflectors.now) l.self.node.0 l.peers (row_with l.heard l.peer.0 l.gone) (row_in l.heard)
      (names_in l.gone)) l.fn.mail;
  nodes : l.mail.nodes ≡ length l.self.topology.now.loopbacks;
  passable : AllByRecursion (IsPassable l.self.topology.now) l.offered-iterator;
}
