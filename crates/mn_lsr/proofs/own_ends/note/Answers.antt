use Rattle.std.proofs.Common.{◌≤◌, ◌<◌, length, sym, ap, subst, ◌∙◌, None}
use Rattle.mn_lsr.specs.declared.own_ends.End.{End}
use Rattle.mn_lsr.specs.OwnEnds.{IsAscending, end_of}
use Rattle.mn_lsr.proofs.Noted.{FoundAt, PartedAt, noted_at, noted_new, is_here, none_before, none_there, below, above, inserted_ascends}
use Rattle.mn_lsr.proofs.own_ends.note.Goals as goal

pub returns-in-Ok-clause-noted : goal.returns-in-Ok-clause-noted
returns-in-Ok-clause-noted c = λ k.
    let es = c.args.ends.now.items in
    let l = c.args.link.0 in
    let here = c.in-Ok.place in
    let none : End = record { link = record { 0 = 0 }; noted = None } in
    let there = subst (λ fs. here < length fs) c.deref.ensures.value c.in-Ok.ensures.bound in
    let found = subst (λ fs. FoundAt fs l here) c.deref.ensures.value c.in-Ok.ensures.place in
    noted_at es here (record { link = c.args.link; noted = c.args.noted }) k none there (is_here es c.requires l here there found none)
    (none_before es c.requires l here there found none)

pub returns-in_ok-insert-in-Err-clause-noted : goal.returns-in_ok-insert-in-Err-clause-noted
returns-in_ok-insert-in-Err-clause-noted c = λ k.
    let es = c.args.ends.now.items in
    let l = c.args.link.0 in
    let here = c.in-Err.place in
    let within = subst (λ fs. here ≤ length fs) c.deref.ensures.value c.in-Err.ensures.bound in
    let parted = subst (λ fs. PartedAt fs l here) c.deref.ensures.value c.in-Err.ensures.place in
    ap (λ fs. end_of fs k) c.in_ok-insert-in-Err.ensures.items
    ∙ noted_new es here (record { link = c.args.link; noted = c.args.noted }) k within (none_there es c.requires l here parted)

pub returns-in_ok-insert-in-Err-clause-ascending : goal.returns-in_ok-insert-in-Err-clause-ascending
returns-in_ok-insert-in-Err-clause-ascending c =
    let es = c.args.ends.now.items in
    let l = c.args.link.0 in
    let here = c.in-Err.place in
    let within = subst (λ fs. here ≤ length fs) c.deref.ensures.value c.in-Err.ensures.bound in
    let parted = subst (λ fs. PartedAt fs l here) c.deref.ensures.value c.in-Err.ensures.place in
    subst IsAscending (sym c.in_ok-insert-in-Err.ensures.items)
    (inserted_ascends es here (record { link = c.args.link; noted = c.args.noted }) within (below es c.requires l here parted)
    (above es c.requires l here parted) c.requires)
