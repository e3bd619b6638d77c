use Rattle.mn_tables.proofs.Telling.{tells_as}
use Rattle.mn_tables.proofs.Rows.{counts_row}
use Rattle.mn_tables.proofs.flight.put_counts.Goals as goal

pub returns : goal.returns
returns g c = tells_as _ _ _ _ _ c.put_pieces.ensures (counts_row c.args.notices c.args.messages _ _ c.digits-learned.ensures c.digits-heard.ensures)
