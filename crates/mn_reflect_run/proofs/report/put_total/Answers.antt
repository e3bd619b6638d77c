use Rattle.std.proofs.Common.{◌∙◌, ap, length}
use Rattle.std.specs.Fmt.{decimal}
use Rattle.mn_tables.proofs.Telling.{tells_as}
use Rattle.mn_reflect_ledger_laws.specs.World.{world_of}
use Rattle.mn_reflect_run.proofs.Rows.{total_row}
use Rattle.mn_reflect_run.proofs.report.put_total.Goals as goal

pub returns : goal.returns
returns g c = λ topology reflectors steps is. tells_as _ _ _ _ _ c.put_pieces.ensures
    (total_row (length steps) c.args.refused (length (world_of topology reflectors steps).flying) c.as_bytes-steps.result.now c.as_bytes-refused.result.now
    c.as_bytes-flying.result.now (c.as_bytes-steps.ensures.value ∙ c.format.ensures.text ∙ ap decimal (c.done.ensures ∙ is.stands.1))
    (c.as_bytes-refused.ensures.value ∙ c.format-2.ensures.text)
    (c.as_bytes-flying.ensures.value ∙ c.format-3.ensures.text ∙ ap decimal (c.pending.ensures topology reflectors steps is.stands)))
