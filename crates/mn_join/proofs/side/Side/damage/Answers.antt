use Rattle.std.proofs.Common.{◌≡◌, OnErr, refl, sym, subst}
use Rattle.mn_sched.proofs.Telling.{leaves}
use Rattle.mn_join.specs.Pairs.{SideNow, IsSide, IsPacedFromStart}
use Rattle.mn_join.specs.Moves.{GoesOn, Undone, stepped_by}
use Rattle.mn_join.proofs.Sides.{damages_by, damage_on, goes_on, undone, left_by, paced_on}
use Rattle.mn_join.proofs.side.Side.damage.Goals as goal

pub returns-clause-damages : goal.returns-clause-damages
returns-clause-damages c = λ pairing which side h.
    let old : SideNow = record { net = c.self.inside.net; partners = c.self.inside.partners.items; owners = c.self.inside.owners.items } in
    let new : SideNow = record { net = c.damage.new.self; partners = c.self.inside.partners.items; owners = c.self.inside.owners.items } in
    let stand : IsSide pairing which old side = subst (λ s. IsSide pairing which s side) (sym c.self.view_is) h in
    rw c.stepped_by.ensures
    (damages_by pairing which old side stand c.damage.result new c.args.damage c.args.packet.now (c.damage.ensures.answer side.inputs stand.stands)
    c.damage.ensures.longer c.damage.ensures.stands
    (leaves _ _ _ c.damage.ensures.left c.damage.ensures.for_good) refl refl)

pub returns-clause-goes : goal.returns-clause-goes
returns-clause-goes c =
    let old : SideNow = record { net = c.self.inside.net; partners = c.self.inside.partners.items; owners = c.self.inside.owners.items } in
    let new : SideNow = record { net = c.damage.new.self; partners = c.self.inside.partners.items; owners = c.self.inside.owners.items } in
    subst (λ s. GoesOn s new) c.self.view_is
    (goes_on c.damage.result old new (damage_on c.damage.result old.net new.net c.args.damage c.damage.ensures.longer)
    (leaves _ _ _ c.damage.ensures.left c.damage.ensures.for_good) refl)

pub returns-clause-undone : goal.returns-clause-undone
returns-clause-undone c =
    let old : SideNow = record { net = c.self.inside.net; partners = c.self.inside.partners.items; owners = c.self.inside.owners.items } in
    let new : SideNow = record { net = c.damage.new.self; partners = c.self.inside.partners.items; owners = c.self.inside.owners.items } in
    rw c.stepped_by.ensures
    (subst (λ s. Undone s new (stepped_by c.damage.result)) c.self.view_is
    (undone c.damage.result old new (leaves _ _ _ c.damage.ensures.left c.damage.ensures.for_good) refl refl))

pub returns-clause-left : goal.returns-clause-left
returns-clause-left c =
    rw c.stepped_by.ensures
    (subst (λ (s : SideNow). OnErr (stepped_by c.damage.result) (c.damage.new.self.journal ≡ s.net.journal)) c.self.view_is
    (left_by c.damage.result c.self.inside.net c.damage.new.self (leaves _ _ _ c.damage.ensures.left c.damage.ensures.for_good)))

pub returns-clause-paced : goal.returns-clause-paced
returns-clause-paced c = λ paced.
    paced_on c.damage.result c.self.inside.net c.damage.new.self
    (damage_on c.damage.result c.self.inside.net c.damage.new.self c.args.damage c.damage.ensures.longer)
    (leaves _ _ _ c.damage.ensures.left c.damage.ensures.for_good) (subst (λ (s : SideNow). IsPacedFromStart s.net) (sym c.self.view_is) paced)
