use Rattle.std.proofs.Common.{◌∷◌, ◌++◌, [], refl, ap, sym, ◌∙◌, subst, arith}
use Rattle.mn_join.specs.Pairs.{SideNow, IsSide}
use Rattle.mn_join.proofs.Sides.{enters_done}
use Rattle.mn_join.proofs.side.Side.enter.Goals as goal

pub returns-clause-enters : goal.returns-clause-enters
returns-clause-enters c = λ pairing which side h.
    let old : SideNow = record { net = c.self.inside.net; partners = c.self.inside.partners.items; owners = c.self.inside.owners.items } in
    let new : SideNow = record { net = c.step.new.self; partners = c.self.inside.partners.items; owners = c.push_reserved.new.self.items } in
    let stand : IsSide pairing which old side = subst (λ s. IsSide pairing which s side) (sym c.self.view_is) h in
    enters_done pairing which old side stand new c.args.site c.args.number c.args.bytes.now c.args.owner c.packets-packet.result
    (λ i. omega (arith, c.type_inv.bytes i)) (c.in_ok-step.ensures.answer side.inputs stand.stands)
    (c.packets-packet.ensures.told side.inputs stand.stands) c.in_ok-step.ensures.longer c.in_ok-step.ensures.stands refl
    (c.push_reserved.ensures.items ∙ ap (λ owners. owners ++ c.args.owner ∷ []) c.reserve.ensures.items)
