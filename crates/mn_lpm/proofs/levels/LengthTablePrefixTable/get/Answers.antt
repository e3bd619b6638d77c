use Rattle.std.proofs.Common.{subst}
use Rattle.mn_prefix.specs.Table.{IsTable}
use Rattle.mn_lpm.proofs.ByLength.{value_there, levels_table}
use Rattle.mn_lpm.proofs.levels.LengthTablePrefixTable.get.Goals as goal

pub returns-clause-value : goal.returns-clause-value
returns-clause-value g c =
    value_there c.self.inside.levels c.args.self.now c.from.result c.address.result c.index-self-from.result c.args.prefix _ c.self.view_is c.self.invariant
    c.length.ensures.form.short (rw c.from.ensures c.length.ensures.value) c.address.ensures.value c.get.ensures.value

pub returns-clause-table : goal.returns-clause-table
returns-clause-table g c = subst IsTable c.self.view_is (levels_table c.self.inside.levels c.self.invariant)
