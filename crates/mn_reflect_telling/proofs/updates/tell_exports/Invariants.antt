use Rattle.std.proofs.Common.{◌≡◌, drop, length}
use Rattle.mn_reflect_world_laws.specs.Letters.{edge_news}
use Rattle.mn_reflect_telling.specs.Telling.{posted}
use Rattle.mn_reflect_telling.proofs.updates.tell_exports.Given as goal

-- what is said of the exports to come ends it
abbrev pub invariant-loop-export : goal.invariant-loop-export
invariant-loop-export l = record {
  told : posted (edge_news l.topology l.edge.0 l.peers l.comes (drop l.export-index l.exports)) l.mail
      ≡ posted (edge_news l.topology l.edge.0 l.peers l.comes l.exports) l.fn.mail;
  nodes : l.mail.nodes ≡ length l.topology.loopbacks;
}
