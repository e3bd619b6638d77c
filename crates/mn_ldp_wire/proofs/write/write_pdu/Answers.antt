use Rattle.std.proofs.Common.{◌≡◌, arith, ap, subst, sym, ◌∙◌, refl, ℕ, List, [], ◌∷◌, ◌++◌}
use Rattle.mn_ldp_wire.specs.Grammar.{mandatory_tlvs, written, IsPdu}
use Rattle.mn_ldp_wire.proofs.Written.{pdu_in_turn, tlvs_small}
use Rattle.mn_ldp_wire.proofs.Pdus.{written_is, pdu_again, cut_refused}
use Rattle.mn_ldp_wire.proofs.write.write_pdu.Goals as goal

pub overflow_add-contents : goal.overflow_add-contents
overflow_add-contents c = omega (arith, tlvs_small c.args.message.now.body c.requires, c.tlvs_size-contents.ensures)

pub overflow_add-contents-2 : goal.overflow_add-contents-2
overflow_add-contents-2 c = omega (arith, tlvs_small c.args.message.now.body c.requires, c.tlvs_size-contents.ensures)

pub overflow_cast-contents : goal.overflow_cast-contents
overflow_cast-contents c = omega (arith, tlvs_small c.args.message.now.body c.requires, c.tlvs_size-contents.ensures)

pub overflow_cast-contents-2 : goal.overflow_cast-contents-2
overflow_cast-contents-2 c = omega (arith, tlvs_small c.args.message.now.body c.requires, c.tlvs_size-contents.ensures)

pub returns : goal.returns
returns c =
    let spelled : c.put_mandatory_tlvs.new.out.items ≡ written c.args.from c.args.message.now =
    pdu_in_turn _ c.put_u32.new.out.items c.put_u16-4.new.out.items c.put_u16-3.new.out.items c.put_id.new.out.items c.put_u16-2.new.out.items
    c.put_u16.new.out.items (mandatory_tlvs c.args.message.now.body) c.args.from c.args.message.now _ _ _
    c.in_ok-put_mandatory_tlvs.ensures.tlvs refl c.in_ok-put_u32.ensures.bytes c.in_ok-put_u16-4.ensures
    c.in_ok-put_u16-3.ensures c.type_of.ensures c.in_ok-put_id.ensures.id
    c.in_ok-put_u16-2.ensures (c.in_ok-put_u16.ensures ∙ ap (λ (xs : List ℕ). xs ++ 0 ∷ 1 ∷ []) c.in_ok-pdu.ensures.items)
    (omega (arith, c.tlvs_size-contents.ensures)) (omega (arith, c.tlvs_size-contents.ensures))
    in
    let small = tlvs_small c.args.message.now.body c.requires in
    let is = subst (λ (xs : List ℕ). IsPdu xs c.args.from (c.args.message.now ∷ [])) (sym spelled)
    (written_is c.args.from c.args.message.now c.in_ok-put_id.ensures.fits c.in_ok-put_u32.ensures.fits c.in_ok-put_mandatory_tlvs.ensures.lawful small) in
    let reads = pdu_again c.put_mandatory_tlvs.new.out.items c.args.from (c.args.message.now ∷ []) is in
    record {
      written = spelled;
      is_pdu = is;
      again = reads;
      cut = λ k h. cut_refused c.put_mandatory_tlvs.new.out.items (record { from = c.args.from; messages = c.args.message.now ∷ [] }) k reads h;
    }
