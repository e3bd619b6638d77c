use Rattle.std.proofs.Common.{◌∙◌}
use Rattle.mn_lpm.proofs.ByLength.{value_there, levels_table, call_changes, call_keeps}
use Rattle.mn_lpm.proofs.levels.LengthTablePrefixTable.remove.Goals as goal

pub invariant_of-self : goal.invariant_of-self
invariant_of-self g c =
    call_keeps c.self.inside.levels c.args.self.now c.from.result c.address.result c.index-self-from.result c.args.prefix c.remove.new.self _ c.self.view_is
    c.self.invariant c.length.ensures.form (c.from.ensures ∙ c.length.ensures.value) c.address.ensures.value
    c.remove.ensures.ordered c.remove.ensures.updates

pub returns-clause-removed : goal.returns-clause-removed
returns-clause-removed g c =
    call_changes c.self.inside.levels c.args.self.now c.from.result c.address.result c.index-self-from.result c.args.prefix c.remove.new.self _
    c.self.view_is c.self.invariant c.length.ensures.form (c.from.ensures ∙ c.length.ensures.value) c.address.ensures.value
    c.remove.ensures.updates

pub returns-clause-table : goal.returns-clause-table
returns-clause-table g c = levels_table _ (invariant_of-self g c)

pub returns-clause-before : goal.returns-clause-before
returns-clause-before g c =
    value_there c.self.inside.levels c.args.self.now c.from.result c.address.result c.index-self-from.result c.args.prefix _ c.self.view_is c.self.invariant
    c.length.ensures.form.short (c.from.ensures ∙ c.length.ensures.value) c.address.ensures.value
    c.remove.ensures.value
