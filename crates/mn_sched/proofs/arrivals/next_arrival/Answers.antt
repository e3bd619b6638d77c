use Rattle.std.proofs.Common.{◌≤◌, ◌+◌, refl, sym, ap, ◌∙◌, subst, IfSome}
use Rattle.mn_course_laws.specs.declared.coming.Coming.{Coming}
use Rattle.mn_course_laws.specs.Coming.{delivery, earlier, ever}
use Rattle.mn_ledger_laws.specs.Flight.{IsOpen}
use Rattle.mn_sched.specs.Playing.{IsDelivery, GoesTo, IsGone}
use Rattle.mn_sched.proofs.Telling.{earlier_has}
use Rattle.mn_sched.proofs.Onward.{due_first, all_gone, first_frame}
use Rattle.mn_sched.proofs.arrivals.next_arrival.Goals as goal

pub returns-in-DueBy-clause-fits : goal.returns-in-DueBy-clause-fits
returns-in-DueBy-clause-fits c =
    let P : Coming → Type 0 = λ item. IsDelivery c.args.net.now.topology (delivery item) in
    rw c.earlier.ensures
    (earlier_has P _ _ c.coming-in-DueBy-2.ensures.fits
    (rw c.earlier-message_or_frame.ensures (earlier_has P _ _ c.coming.ensures.fits c.coming-in-DueBy.ensures.fits)))

pub returns-in-DueBy-clause-opens : goal.returns-in-DueBy-clause-opens
returns-in-DueBy-clause-opens c = λ inputs stands.
    let P : Coming → Type 0 = λ item. IsOpen c.args.net.now.topology c.args.net.now.journal inputs (delivery item) in
    rw c.earlier.ensures
    (earlier_has P _ _ (c.coming-in-DueBy-2.ensures.opens inputs stands)
    (rw c.earlier-message_or_frame.ensures (earlier_has P _ _ (c.coming.ensures.opens inputs stands) (c.coming-in-DueBy.ensures.opens inputs stands))))

pub returns-in-DueBy-clause-soon : goal.returns-in-DueBy-clause-soon
returns-in-DueBy-clause-soon c =
    let P : Coming → Type 0 = λ item. item.due ≤ c.args.net.now.tick + 1000 in
    rw c.earlier.ensures
    (earlier_has P _ _ c.coming-in-DueBy-2.ensures.soon
    (rw c.earlier-message_or_frame.ensures (earlier_has P _ _ c.coming.ensures.soon c.coming-in-DueBy.ensures.soon)))

pub returns-in-DueBy-clause-first : goal.returns-in-DueBy-clause-first
returns-in-DueBy-clause-first c =
    let net = c.args.net.now in
    let end = c.in-DueBy.end in
    subst (λ arrivals. IfSome c.earlier.result (λ (item : Coming). GoesTo arrivals net item.due)) (sym c.in-DueBy.is)
    (rw (c.earlier.ensures, c.earlier-message_or_frame.ensures)
    (due_first net end c.coming-in-DueBy-2.result c.coming.result c.coming-in-DueBy.result c.coming-in-DueBy-2.ensures.within
    c.coming.ensures.within c.coming-in-DueBy.ensures.within (c.coming-in-DueBy.ensures.first refl)))

pub returns-in-DueBy-clause-gone : goal.returns-in-DueBy-clause-gone
returns-in-DueBy-clause-gone c = λ none.
    let net = c.args.net.now in
    subst (λ arrivals. IsGone arrivals net) (sym c.in-DueBy.is)
    (all_gone net c.in-DueBy.end c.coming-in-DueBy-2.result c.coming.result c.coming-in-DueBy.result (c.coming-in-DueBy.ensures.first refl)
    (sym (ap (λ o. earlier c.coming-in-DueBy-2.result o) c.earlier-message_or_frame.ensures) ∙ sym c.earlier.ensures ∙ none))

pub returns-in-AllFrames-clause-first : goal.returns-in-AllFrames-clause-first
returns-in-AllFrames-clause-first c =
    let net = c.args.net.now in
    subst (λ arrivals. IfSome c.coming-in-AllFrames.result (λ (item : Coming). GoesTo arrivals net item.due)) (sym c.in-AllFrames.is)
    (first_frame net ever c.coming-in-AllFrames.result (c.coming-in-AllFrames.ensures.first refl))
