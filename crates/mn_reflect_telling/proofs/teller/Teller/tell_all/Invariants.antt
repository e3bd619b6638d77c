use Rattle.std.proofs.Common.{◌≡◌, None, drop, length}
use Rattle.std.specs.List.{flat_map}
use Rattle.mn_reflect_world_laws.specs.Choice.{offered_of}
use Rattle.mn_reflect_world_laws.specs.Letters.{change_letters}
use Rattle.mn_reflect_telling.specs.declared.name.Name.{Name}
use Rattle.mn_reflect_telling.specs.Mentions.{numbers_of, row_in}
use Rattle.mn_reflect_telling.specs.Names.{key_in}
use Rattle.mn_reflect_telling.specs.Telling.{posted}
use Rattle.mn_reflect_telling.proofs.teller.Teller.tell_all.Given as goal

-- what is sent of the routes to come ends it
abbrev pub invariant-loop-name : goal.invariant-loop-name
invariant-loop-name l = record {
  told : posted (flat_map (λ (name : Name). change_letters l.self.topology.now l.self.node.0 l.peer.0 (key_in name) None
      (offered_of l.self.topology.now (numbers_of l.self.reflectors.now) (row_in l.heard) l.self.node.0 l.peer.0 (key_in name))) (drop l.name-index l.names))
      l.mail
      ≡ posted (flat_map (λ (name : Name). change_letters l.self.topology.now l.self.node.0 l.peer.0 (key_in name) None
      (offered_of l.self.topology.now (numbers_of l.self.reflectors.now) (row_in l.heard) l.self.node.0 l.peer.0 (key_in name))) l.names) l.fn.mail;
  nodes : l.mail.nodes ≡ length l.self.topology.now.loopbacks;
}
