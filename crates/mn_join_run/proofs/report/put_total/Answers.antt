use Rattle.std.proofs.Common.{◌∙◌}
use Rattle.mn_tables.proofs.Telling.{tells_as}
use Rattle.mn_join_run.proofs.Rows.{total_row}
use Rattle.mn_join_run.proofs.report.put_total.Goals as goal

pub returns : goal.returns
returns g c = tells_as _ _ _ _ _ c.put_pieces.ensures
    (total_row c.args.totals c.as_bytes-packets.result.now c.as_bytes-delivered.result.now c.as_bytes-dropped.result.now c.as_bytes-flying.result.now
    c.as_bytes-refused.result.now (c.as_bytes-packets.ensures.value ∙ c.format.ensures.text) (c.as_bytes-delivered.ensures.value ∙ c.format-2.ensures.text)
    (c.as_bytes-dropped.ensures.value ∙ c.format-3.ensures.text) (c.as_bytes-flying.ensures.value ∙ c.format-4.ensures.text)
    (c.as_bytes-refused.ensures.value ∙ c.format-5.ensures.text))
