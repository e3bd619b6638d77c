use Rattle.std.proofs.Common.{◌≡◌, drop, length, map}
use Rattle.mn_base.specs.declared.numbers.NodeNo.{NodeNo}
use Rattle.mn_reflect_world_laws.specs.Letters.{export_letter}
use Rattle.mn_reflect_telling.specs.Telling.{posted}
use Rattle.mn_reflect_telling.proofs.updates.tell_export.Given as goal

-- what is sent to the peers to come ends it
abbrev pub invariant-loop-peer : goal.invariant-loop-peer
invariant-loop-peer l = record {
  told : posted (map (λ (peer : NodeNo). export_letter l.topology l.edge.0 peer.0 l.comes l.export) (drop l.peer-index l.peers)) l.mail
      ≡ posted (map (λ (peer : NodeNo). export_letter l.topology l.edge.0 peer.0 l.comes l.export) l.peers) l.fn.mail;
  nodes : l.mail.nodes ≡ length l.topology.loopbacks;
}
