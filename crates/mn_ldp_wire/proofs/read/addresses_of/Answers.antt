use Rattle.std.proofs.Common.{ap, sym, ◌∙◌, Ok}
use Rattle.mn_ldp_wire.proofs.Loops.{on_ok, four_go_on, four_end}
use Rattle.mn_ldp_wire.proofs.read.addresses_of.Goals as goal

pub addresses-preserved : goal.addresses-preserved
addresses-preserved c =
    four_go_on _ c.addresses.rest.now c.addresses.addresses.items c.in-Some.octets.now c.in-Some.behind.now c.push.new.self.items c.read_u32-address.result
    c.in-Some.ensures.cases.0 c.in-Some.ensures.cases.1 c.in-Some.ensures.cases.2 c.read_u32-address.ensures
    (on_ok _ _ _ _ (sym c.in_ok-map_err.ensures.variant) c.push.ensures.items)
    c.addresses.invariant

pub returns : goal.returns
returns c =
    ap (λ xs. Ok xs) (four_end _ c.addresses.rest.now c.addresses.addresses.items c.in_default.ensures.cases c.addresses.invariant ∙ sym c.from_vec.ensures)
