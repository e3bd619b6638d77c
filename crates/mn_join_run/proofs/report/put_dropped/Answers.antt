use Rattle.std.proofs.Common.{◌∙◌}
use Rattle.mn_lines.specs.Names.{names_of}
use Rattle.mn_tables.proofs.Telling.{tells_as}
use Rattle.mn_join_run.proofs.Rows.{dropped_row}
use Rattle.mn_join_run.proofs.report.put_dropped.Goals as goal

pub returns : goal.returns
returns g c = tells_as _ _ _ _ _ c.put_rule.ensures
    (dropped_row (names_of c.args.topology.now) c.args.rule c.args.node c.as_bytes.result.now c.node_name-name.result.now
    (c.as_bytes.ensures.value ∙ c.rule_name-rule.ensures) c.node_name-name.ensures)
