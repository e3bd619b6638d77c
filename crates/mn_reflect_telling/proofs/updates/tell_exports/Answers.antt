use Rattle.std.proofs.Common.{◌≡◌, length, map, arith, sym, ◌∙◌}
use Rattle.mn_base.specs.declared.numbers.NodeNo.{NodeNo}
use Rattle.mn_pe.specs.Held.{Exported}
use Rattle.mn_reflect_world_laws.specs.Letters.{export_letter}
use Rattle.mn_reflect_telling.proofs.Posting.{told_next, told_all}
use Rattle.mn_reflect_telling.proofs.updates.tell_exports.Goals as goal

pub loop-export-preserved : goal.loop-export-preserved
loop-export-preserved c =
    let at = c.loop-export in
    record {
      told = told_next (λ (export : Exported). map (λ (peer : NodeNo). export_letter c.args.topology.now c.args.edge.0 peer.0 c.args.comes export)
          c.args.peers.now)
          c.args.exports.now at.export-index c.export-item.result at.mail c.tell_export.new.mail _ c.loop-export-test.true c.export-item.is
          c.in_ok-tell_export.ensures.told at.invariant.told;
      nodes = c.in_ok-tell_export.ensures.nodes ∙ at.invariant.nodes;
    }

pub returns-clause-told : goal.returns-clause-told
returns-clause-told c =
    let at = c.loop-export in
    let end : at.export-index ≡ length c.args.exports.now = omega arith in
    told_all (λ (export : Exported). map (λ (peer : NodeNo). export_letter c.args.topology.now c.args.edge.0 peer.0 c.args.comes export) c.args.peers.now)
    c.args.exports.now at.export-index at.mail _ end at.invariant.told

pub returns-clause-nodes : goal.returns-clause-nodes
returns-clause-nodes c = c.loop-export.invariant.nodes ∙ sym c.requires.nodes
