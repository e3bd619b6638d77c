use Rattle.std.proofs.Common.{◌≡◌, [], ◌∙◌, ap, subst}
use Rattle.std.specs.Prelude.{◌%◌, IfOk}
use Rattle.mn_wiring.specs.Wiring.{Wiring}
use Rattle.mn_ldp_wire.specs.declared.message.LdpBody.{LdpBody}
use Rattle.mn_ldp_wire.specs.declared.message.LdpId.{LdpId}
use Rattle.mn_ldp_wire.specs.Grammar.{written}
use Rattle.mn_ldp_session.specs.Spelling.{id_of, body_of}
use Rattle.mn_labels.specs.Labels.{own_labels}
use Rattle.mn_lsr.specs.Message.{meaning}
use Rattle.mn_lsr.proofs.Ids.{written_low}
use Rattle.mn_lsr.proofs.message.pdu_bytes.Goals as goal

pub returns : goal.returns
returns c =
    let w : Wiring = record { loopbacks = c.args.speaker.now.loopbacks.now; ends = [] } in
    let body : LdpBody = body_of w c.args.speaker.now.me.0 (own_labels c.args.speaker.now.me.0 c.args.speaker.now.labels.now.labels) c.args.far.0
    c.args.speaker.now.withdrawn (meaning c.args.message) in
    let same : written c.id_of.result (record { id = c.args.number % 4294967296; body = c.in_ok-body.body }) ≡ written (id_of w
    c.args.speaker.now.me.0) (record {
      id =
          c.args.number;
      body = body;
    }) =
    ap (λ (from : LdpId). written from (record { id = c.args.number % 4294967296; body = c.in_ok-body.body })) c.id_of.ensures
    ∙ ap (λ (b : LdpBody). written (id_of w c.args.speaker.now.me.0) (record { id = c.args.number % 4294967296; body = b })) c.in_ok-body.ensures.body
    ∙ written_low (id_of w c.args.speaker.now.me.0) body c.args.number in
    subst (λ bytes. IfOk c.write_pdu.result (λ pdu. pdu.items ≡ bytes)) same c.write_pdu.ensures.written
