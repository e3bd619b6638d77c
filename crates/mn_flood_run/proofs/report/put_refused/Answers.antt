use Rattle.std.proofs.Common.{◌∙◌}
use Rattle.mn_tables.proofs.Telling.{tells_as}
use Rattle.mn_flood_run.specs.Playing.{bad_name}
use Rattle.mn_flood_run.proofs.Rows.{refused_row}
use Rattle.mn_flood_run.proofs.report.put_refused.Goals as goal

pub returns : goal.returns
returns g c = tells_as _ _ _ _ _ c.put_pieces.ensures
    (refused_row c.args.number (bad_name c.args.bad) c.as_bytes-line.result.now c.as_bytes-cause.result.now (c.as_bytes-line.ensures.value
    ∙ c.format.ensures.text)
    (c.as_bytes-cause.ensures.value ∙ c.bad_name.ensures))
