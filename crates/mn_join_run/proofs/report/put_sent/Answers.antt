use Rattle.std.proofs.Common.{◌∙◌}
use Rattle.mn_report.specs.Shown.{sending_of}
use Rattle.mn_tables.proofs.Telling.{tells_as}
use Rattle.mn_join_run.proofs.Rows.{sent_row}
use Rattle.mn_join_run.proofs.report.put_sent.Goals as goal

pub returns : goal.returns
returns g c = tells_as _ _ _ _ _ c.put_pieces.ensures
    (sent_row c.args.number (sending_of c.args.sent) c.as_bytes-number.result.now c.as_bytes-line.result.now c.as_bytes-nth.result.now
    (c.as_bytes-number.ensures.value ∙ c.format.ensures.text) (c.as_bytes-line.ensures.value ∙ c.format-2.ensures.text)
    (c.as_bytes-nth.ensures.value ∙ c.format-3.ensures.text))
