use Rattle.std.proofs.Common.{◌≡◌, drop, length}
use Rattle.std.specs.List.{flat_map}
use Rattle.mn_base.specs.declared.numbers.NodeNo.{NodeNo}
use Rattle.mn_reflect_world_laws.specs.Choice.{Row, offered_of}
use Rattle.mn_reflect_world_laws.specs.Letters.{change_letters}
use Rattle.mn_reflect_telling.specs.Mentions.{numbers_of, ShowsIn}
use Rattle.mn_reflect_telling.specs.Names.{named}
use Rattle.mn_reflect_telling.specs.Telling.{posted}
use Rattle.mn_reflect_telling.proofs.teller.Teller.tell.Given as goal

-- what is sent to the peers to come ends it
abbrev pub invariant-loop-peer : goal.invariant-loop-peer
invariant-loop-peer l = record {
  told : (was row : Row) → ShowsIn l.before was → ShowsIn l.after row →
      posted (flat_map (λ (peer : NodeNo). change_letters l.self.topology.now l.self.node.0 peer.0 (named l.after.vrf l.after.prefix)
      (offered_of l.self.topology.now (numbers_of l.self.reflectors.now) was l.self.node.0 peer.0 (named l.after.vrf l.after.prefix))
      (offered_of l.self.topology.now (numbers_of l.self.reflectors.now) row l.self.node.0 peer.0 (named l.after.vrf l.after.prefix)))
      (drop l.peer-index l.peers)) l.mail
      ≡ posted (flat_map (λ (peer : NodeNo). change_letters l.self.topology.now l.self.node.0 peer.0 (named l.after.vrf l.after.prefix)
      (offered_of l.self.topology.now (numbers_of l.self.reflectors.now) was l.self.node.0 peer.0 (named l.after.vrf l.after.prefix))
      (offered_of l.self.topology.now (numbers_of l.self.reflectors.now) row l.self.node.0 peer.0 (named l.after.vrf l.after.prefix)))
      l.peers) l.fn.mail;
  nodes : l.mail.nodes ≡ length l.self.topology.now.loopbacks;
}
