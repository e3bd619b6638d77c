use Rattle.std.proofs.Common.{◌≡◌, [], ◌∷◌, length, arith, sym, ap, ◌∙◌}
use Rattle.std.specs.Prelude.{slice_index_or}
use Rattle.mn_base.specs.declared.numbers.NodeNo.{NodeNo}
use Rattle.mn_reflect_world_laws.specs.Letters.{export_letter}
use Rattle.mn_reflect_telling.specs.Telling.{posted, letter_of}
use Rattle.mn_reflect_telling.proofs.Posting.{sent_at, sent_all}
use Rattle.mn_reflect_telling.proofs.updates.tell_export.Goals as goal

pub loop-peer-preserved : goal.loop-peer-preserved
loop-peer-preserved c =
    let at = c.loop-peer in
    record {
      told = sent_at (λ (peer : NodeNo). export_letter c.args.topology.now c.args.edge.0 peer.0 c.args.comes c.args.export.now) c.args.peers.now at.peer-index
          (record { 0 = 0 }) at.mail c.send.new.mail _ c.loop-peer-test.true
          (c.in_ok-send.ensures.sent ∙ ap (λ bytes. posted (letter_of c.args.edge.0 (slice_index_or c.args.peers.now at.peer-index (record { 0 = 0 })).0 bytes
          ∷ []) at.mail)
          c.in_ok-bytes.ensures)
          at.invariant.told;
      nodes = c.in_ok-send.ensures.nodes ∙ at.invariant.nodes;
    }

pub returns-clause-told : goal.returns-clause-told
returns-clause-told c =
    let at = c.loop-peer in
    let end : at.peer-index ≡ length c.args.peers.now = omega arith in
    sent_all (λ (peer : NodeNo). export_letter c.args.topology.now c.args.edge.0 peer.0 c.args.comes c.args.export.now) c.args.peers.now at.peer-index at.mail _
    end
    at.invariant.told

pub returns-clause-nodes : goal.returns-clause-nodes
returns-clause-nodes c = c.loop-peer.invariant.nodes ∙ sym c.requires.nodes
