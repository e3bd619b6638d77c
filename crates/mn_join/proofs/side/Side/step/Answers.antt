use Rattle.std.proofs.Common.{◌≡◌, true, OnErr, refl, sym, subst}
use Rattle.mn_topo.specs.Steps.{fits}
use Rattle.mn_sched.proofs.Telling.{leaves}
use Rattle.mn_join.specs.Pairs.{SideNow, IsSide, IsPacedFromStart}
use Rattle.mn_join.specs.Moves.{GoesOn, Undone, stepped_by}
use Rattle.mn_join.proofs.Sides.{steps_by, step_on, goes_on, undone, left_by, paced_on}
use Rattle.mn_join.proofs.side.Side.step.Goals as goal

pub returns-clause-steps : goal.returns-clause-steps
returns-clause-steps c = λ pairing which side h.
    let old : SideNow = record { net = c.self.inside.net; partners = c.self.inside.partners.items; owners = c.self.inside.owners.items } in
    let new : SideNow = record { net = c.step.new.self; partners = c.self.inside.partners.items; owners = c.self.inside.owners.items } in
    let stand : IsSide pairing which old side = subst (λ s. IsSide pairing which s side) (sym c.self.view_is) h in
    rw c.stepped_by.ensures
    (steps_by pairing which old side stand c.step.result new c.args.step c.requires.plain (c.step.ensures.answer side.inputs stand.stands) c.step.ensures.longer
    c.step.ensures.stands
    (leaves _ _ _ c.step.ensures.left c.step.ensures.for_good) refl refl)

pub returns-clause-goes : goal.returns-clause-goes
returns-clause-goes c =
    let old : SideNow = record { net = c.self.inside.net; partners = c.self.inside.partners.items; owners = c.self.inside.owners.items } in
    let new : SideNow = record { net = c.step.new.self; partners = c.self.inside.partners.items; owners = c.self.inside.owners.items } in
    subst (λ s. GoesOn s new) c.self.view_is
    (goes_on c.step.result old new (step_on c.step.result old.net new.net c.args.step
    (subst (λ (s : SideNow). fits s.net.topology c.args.step ≡ true) (sym c.self.view_is) c.requires.fits) c.step.ensures.longer)
    (leaves _ _ _ c.step.ensures.left c.step.ensures.for_good) refl)

pub returns-clause-undone : goal.returns-clause-undone
returns-clause-undone c =
    let old : SideNow = record { net = c.self.inside.net; partners = c.self.inside.partners.items; owners = c.self.inside.owners.items } in
    let new : SideNow = record { net = c.step.new.self; partners = c.self.inside.partners.items; owners = c.self.inside.owners.items } in
    rw c.stepped_by.ensures
    (subst (λ s. Undone s new (stepped_by c.step.result)) c.self.view_is
    (undone c.step.result old new (leaves _ _ _ c.step.ensures.left c.step.ensures.for_good) refl refl))

pub returns-clause-left : goal.returns-clause-left
returns-clause-left c =
    rw c.stepped_by.ensures
    (subst (λ (s : SideNow). OnErr (stepped_by c.step.result) (c.step.new.self.journal ≡ s.net.journal)) c.self.view_is
    (left_by c.step.result c.self.inside.net c.step.new.self (leaves _ _ _ c.step.ensures.left c.step.ensures.for_good)))

pub returns-clause-paced : goal.returns-clause-paced
returns-clause-paced c = λ paced.
    paced_on c.step.result c.self.inside.net c.step.new.self (step_on c.step.result c.self.inside.net c.step.new.self c.args.step
    (subst (λ (s : SideNow). fits s.net.topology c.args.step ≡ true) (sym c.self.view_is) c.requires.fits) c.step.ensures.longer)
    (leaves _ _ _ c.step.ensures.left c.step.ensures.for_good) (subst (λ (s : SideNow). IsPacedFromStart s.net) (sym c.self.view_is) paced)
