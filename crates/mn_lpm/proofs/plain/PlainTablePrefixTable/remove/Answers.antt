use Rattle.std.proofs.Common.{ap, sym, ◌∙◌, Some}
use Rattle.mn_prefix.proofs.Tables.{at_place, value_found, value_missing, nothing_changes, remove_changes, remove_keeps}
use Rattle.mn_lpm.proofs.plain.PlainTablePrefixTable.remove.Goals as goal

pub returns-in_err-i-clause-before : goal.returns-in_err-i-clause-before
returns-in_err-i-clause-before g c =
    rw (← c.self.view_is)
    (c.from_residual.ensures
    ∙ sym (value_missing c.args.prefix c.self.inside.pairs.items (at_place _ _ _ _ _ c.place.ensures c.deref.ensures.value c.in_err-i.was)))

pub returns-in_err-i-clause-removed : goal.returns-in_err-i-clause-removed
returns-in_err-i-clause-removed g c =
    rw (← c.self.view_is) (nothing_changes c.args.prefix c.self.inside.pairs.items (at_place _ _ _ _ _ c.place.ensures c.deref.ensures.value c.in_err-i.was))

pub invariant_of-self : goal.invariant_of-self
invariant_of-self g c =
    rw c.remove-value.ensures.items
    (remove_keeps c.args.prefix c.self.inside.pairs.items c.in_ok-i.i (at_place _ _ _ _ _ c.place.ensures c.deref.ensures.value c.in_ok-i.was) c.self.invariant)

pub returns-clause-before : goal.returns-clause-before
returns-clause-before g c =
    let e = value_found c.args.prefix c.self.inside.pairs.items c.in_ok-i.i c.remove-value.result
    (at_place _ _ _ _ _ c.place.ensures c.deref.ensures.value c.in_ok-i.was) in
    rw (← c.self.view_is) (ap (λ x. Some x.1) c.remove-value.ensures.value ∙ sym e)

pub returns-clause-removed : goal.returns-clause-removed
returns-clause-removed g c =
    rw (c.remove-value.ensures.items, ← c.self.view_is)
    (remove_changes c.args.prefix c.self.inside.pairs.items c.in_ok-i.i
    (at_place _ _ _ _ _ c.place.ensures c.deref.ensures.value c.in_ok-i.was) c.self.invariant)

pub returns-clause-table : goal.returns-clause-table
returns-clause-table g c =
    rw c.remove-value.ensures.items
    (remove_keeps c.args.prefix c.self.inside.pairs.items c.in_ok-i.i (at_place _ _ _ _ _ c.place.ensures c.deref.ensures.value c.in_ok-i.was) c.self.invariant)
