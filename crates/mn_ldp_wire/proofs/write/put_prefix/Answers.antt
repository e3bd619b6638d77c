use Rattle.std.proofs.Common.{refl, ap, ◌∙◌, ◌++◌, ◌∷◌, [], ℕ}
use Rattle.mn_ldp_wire.proofs.Written.{at_ok, fec_in_turn}
use Rattle.mn_ldp_wire.proofs.write.put_prefix.Goals as goal

pub returns-clause-tlv : goal.returns-clause-tlv
returns-clause-tlv c =
    at_ok c.extend_from_slice.result _ _ _ _ c.extend_from_slice.ensures.items (λ last.
    fec_in_turn _ c.push-2.new.self.items c.put_u16-3.new.out.items c.push.new.self.items c.put_u16-2.new.out.items c.put_u16.new.out.items
    c.args.out.now.items _ c.args.prefix _
    last (rw (c.to_be_bytes-address.ensures, c.address.ensures.value, c.octets.ensures, c.length-length.ensures.value) refl)
    (c.in_ok-push-2.ensures.items ∙ ap (λ (n : ℕ). c.put_u16-3.new.out.items ++ n ∷ []) c.length-length.ensures.value)
    c.in_ok-put_u16-3.ensures c.in_ok-push.ensures.items c.in_ok-put_u16-2.ensures c.in_ok-put_u16.ensures refl)
