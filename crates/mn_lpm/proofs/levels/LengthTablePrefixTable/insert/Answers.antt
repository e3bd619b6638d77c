use Rattle.std.proofs.Common.{arith, sym, subst, ◌∙◌, ◌<◌, length, Result, Ok, Err, List}
use Rattle.std.specs.Prelude.{OnErr}
use Rattle.mn_prefix.specs.Prefix.{AddressBlock}
use Rattle.mn_prefix.specs.Table.{IsTable}
use Rattle.mn_lpm.proofs.ByLength.{value_there, levels_table, call_changes, call_keeps, same_pairs, not_held}
use Rattle.mn_lpm.proofs.levels.LengthTablePrefixTable.insert.Goals as goal

on_err : {A E : Type 0} (r : Result A E) (P : Type 0) → P → OnErr r P
on_err (Ok x) P p = tt
on_err (Err e) P p = p

pub invariant_of-self-2 : goal.invariant_of-self-2
invariant_of-self-2 g c =
    call_keeps c.self.inside.levels c.args.self.now c.from.result c.address.result c.index-self-from.result c.args.prefix c.insert.new.self _ c.self.view_is
    c.self.invariant c.length.ensures.form (c.from.ensures ∙ c.length.ensures.value) c.address.ensures.value
    c.in_ok-insert.ensures.ordered c.in_ok-insert.ensures.updates

pub returns-clause-ok : goal.returns-clause-ok
returns-clause-ok g c =
    call_changes c.self.inside.levels c.args.self.now c.from.result c.address.result c.index-self-from.result c.args.prefix c.insert.new.self _
    c.self.view_is c.self.invariant c.length.ensures.form (c.from.ensures ∙ c.length.ensures.value) c.address.ensures.value
    c.in_ok-insert.ensures.updates

pub returns-clause-table : goal.returns-clause-table
returns-clause-table g c = levels_table _ (invariant_of-self-2 g c)

pub returns-clause-before : goal.returns-clause-before
returns-clause-before g c =
    value_there c.self.inside.levels c.args.self.now c.from.result c.address.result c.index-self-from.result c.args.prefix _ c.self.view_is c.self.invariant
    c.length.ensures.form.short (c.from.ensures ∙ c.length.ensures.value) c.address.ensures.value
    c.in_ok-insert.ensures.old

-- only a prefix that isn't held wants memory
pub returns-in_err-insert-clause-held : goal.returns-in_err-insert-clause-held
returns-in_err-insert-clause-held g c =
    not_held c.args.prefix c.args.self.now
    (value_there c.self.inside.levels c.args.self.now c.from.result c.address.result c.index-self-from.result c.args.prefix _ c.self.view_is
    c.self.invariant c.length.ensures.form.short (c.from.ensures ∙ c.length.ensures.value) c.address.ensures.value
    (sym c.in_err-insert.ensures.absent))

pub returns-in_err-insert-clause-err : goal.returns-in_err-insert-clause-err
returns-in_err-insert-clause-err g c =
    let there : c.from.result < length c.self.inside.levels =
    omega (arith, c.self.invariant.long, c.length.ensures.form.short, c.length.ensures.value, c.from.ensures) in
    on_err _ _ (same_pairs 0 c.self.inside.levels c.from.result c.index-self-from.result c.insert.new.self there c.in_err-insert.ensures.err ∙ c.self.view_is)

pub returns-in_err-insert-clause-table : goal.returns-in_err-insert-clause-table
returns-in_err-insert-clause-table g c =
    let there : c.from.result < length c.self.inside.levels =
    omega (arith, c.self.invariant.long, c.length.ensures.form.short, c.length.ensures.value, c.from.ensures) in
    subst (λ (pairs : List (AddressBlock × g.row.T.Denot)). IsTable pairs)
    (sym (same_pairs 0 c.self.inside.levels c.from.result c.index-self-from.result c.insert.new.self there c.in_err-insert.ensures.err))
    (levels_table c.self.inside.levels c.self.invariant)
