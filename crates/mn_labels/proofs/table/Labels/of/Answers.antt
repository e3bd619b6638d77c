use Rattle.std.proofs.Common.{◌<◌, length, rules}
use Rattle.mn_labels.proofs.Keeping.{read_fits}
use Rattle.mn_labels.proofs.table.Labels.of.Goals as goal

pub returns-then-at-len-clause-in_range : goal.returns-then-at-len-clause-in_range
returns-then-at-len-clause-in_range c =
    let h : c.args.fec.0 < length c.self.inside.fecs.items = search rules in
    read_fits _ _ _ _ _ c.self.invariant.kept c.args.fec.0 c.index.result.now h c.index.ensures
