use Rattle.std.proofs.Common.{◌∙◌, ap, length}
use Rattle.std.specs.Fmt.{decimal}
use Rattle.mn_tables.proofs.Telling.{tells_as}
use Rattle.mn_flood_run.proofs.Rows.{total_row}
use Rattle.mn_flood_run.proofs.report.put_total.Goals as goal

pub returns : goal.returns
returns g c = tells_as _ _ _ _ _ c.put_pieces.ensures
    (total_row c.args.flood.now.done c.args.refused (length c.args.flood.now.world.flying) c.as_bytes-steps.result.now c.as_bytes-refused.result.now
    c.as_bytes-flying.result.now (c.as_bytes-steps.ensures.value ∙ c.format.ensures.text ∙ ap decimal c.done.ensures)
    (c.as_bytes-refused.ensures.value ∙ c.format-2.ensures.text) (c.as_bytes-flying.ensures.value ∙ c.format-3.ensures.text ∙ ap decimal c.pending.ensures))
