use Rattle.std.proofs.Common.{◌∙◌}
use Rattle.mn_lines.specs.Names.{names_of}
use Rattle.mn_tables.proofs.Telling.{tells_as}
use Rattle.mn_join_run.proofs.Rows.{delivered_row}
use Rattle.mn_join_run.proofs.report.put_delivered.Goals as goal

pub returns : goal.returns
returns g c = λ copy. tells_as _ _ _ _ _ c.put_pieces.ensures
    (delivered_row (names_of c.args.topology.now) c.args.site c.args.ttl copy c.site_name-name.result.now c.as_bytes-left.result.now c.site_name-name.ensures
    (c.as_bytes-left.ensures.value ∙ c.format.ensures.text))
