use Rattle.std.proofs.Common.{refl}
use Rattle.std.proofs.lemmas.List.{take_all}
use Rattle.mn_ldp_wire.proofs.Written.{addresses_in_turn, all_fit}
use Rattle.mn_ldp_wire.proofs.write.put_addresses.Goals as goal

pub returns-clause-tlv : goal.returns-clause-tlv
returns-clause-tlv c =
    addresses_in_turn c.addresses.out.items c.put_u16-3.new.out.items c.put_u16-2.new.out.items c.put_u16.new.out.items c.args.out.now.items
    c.args.addresses.now _ _
    c.addresses.invariant (take_all c.addresses.address-index c.args.addresses.now c.addresses-test.false) c.in_ok-put_u16-3.ensures
    c.in_ok-put_u16-2.ensures c.in_ok-put_u16.ensures refl

pub returns-clause-fit : goal.returns-clause-fit
returns-clause-fit c = all_fit c.args.addresses.now (λ i. (c.type_inv.addresses i).fits)
