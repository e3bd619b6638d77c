use Rattle.std.proofs.Common.{subst, refl, Some}
use Rattle.mn_prefix.specs.Table.{IsTable}
use Rattle.mn_lpm.specs.Levels.{prefix_at}
use Rattle.mn_lpm.proofs.ByLength.{value_there, levels_table}
use Rattle.mn_lpm.proofs.LookUps.{network_is, none_pair, some_pair}
use Rattle.mn_lpm.proofs.levels.LengthTable.of_length.Goals as goal

pub returns-in_err-value-clause-pair : goal.returns-in_err-value-clause-pair
returns-in_err-value-clause-pair g c =
    rw c.from_residual.ensures
    (none_pair (prefix_at c.args.length c.args.address) c.args.self.now
    (value_there c.self.inside.levels c.args.self.now c.from.result c.network-network.result c.index-self-from.result
    (prefix_at c.args.length c.args.address) _ c.self.view_is c.self.invariant c.requires c.from.ensures c.network-network.ensures
    c.in_err-value.ensures.value))

-- an address has a prefix of each length
pub returns-in_err-prefix-clause-pair : goal.returns-in_err-prefix-clause-pair
returns-in_err-prefix-clause-pair g c =
    absurd (c.in_err-prefix.ensures.value (rw c.network-network.ensures (network_is c.args.length c.args.address c.ranges.address.fits c.requires)))

pub returns-clause-pair : goal.returns-clause-pair
returns-clause-pair g c =
    some_pair (prefix_at c.args.length c.args.address) c.in_ok-prefix.prefix c.in_ok-value.value.now c.args.self.now
    (rw (c.in_ok-prefix.ensures.value, c.network-network.ensures) refl)
    (value_there c.self.inside.levels c.args.self.now c.from.result c.network-network.result c.index-self-from.result
    (prefix_at c.args.length c.args.address) (Some c.in_ok-value.value.now) c.self.view_is c.self.invariant c.requires c.from.ensures
    c.network-network.ensures c.in_ok-value.ensures.value)

pub returns-in_err-value-clause-table : goal.returns-in_err-value-clause-table
returns-in_err-value-clause-table g c = subst IsTable c.self.view_is (levels_table c.self.inside.levels c.self.invariant)

pub returns-in_err-prefix-clause-table : goal.returns-in_err-prefix-clause-table
returns-in_err-prefix-clause-table g c = subst IsTable c.self.view_is (levels_table c.self.inside.levels c.self.invariant)

pub returns-clause-table : goal.returns-clause-table
returns-clause-table g c = subst IsTable c.self.view_is (levels_table c.self.inside.levels c.self.invariant)
