use Rattle.std.proofs.Common.{sym, ◌∙◌, arith}
use Rattle.mn_ledger.specs.Items.{items_on, Frames}
use Rattle.mn_tables.proofs.Telling.{tells_as, tells_nothing}
use Rattle.mn_tables.proofs.Rows.{frames_row, no_frames_row}
use Rattle.mn_tables.proofs.flight.put_frames.Goals as goal

pub returns-then-frames-eq0-clause-told : goal.returns-then-frames-eq0-clause-told
returns-then-frames-eq0-clause-told g c = λ items is_count. tells_as _ _ _ _ _ (tells_nothing _)
    (no_frames_row c.args.topology.now c.args.direction.0.0 c.args.direction.1 (items_on (Frames c.args.direction.0.0 c.args.direction.1) items)
    (sym c.if-frames-eq0.true ∙ is_count))

pub returns-clause-told : goal.returns-clause-told
returns-clause-told g c = λ items is_count. tells_as _ _ _ _ _ c.put_pieces.ensures
    (frames_row c.args.topology.now c.args.direction.0.0 c.args.direction.1 (items_on (Frames c.args.direction.0.0 c.args.direction.1) items) c.args.frames
    _ _ _ (omega arith) is_count c.end_names.ensures.from c.end_names.ensures.to c.digits-count.ensures)

pub returns-clause-cause : goal.returns-clause-cause
returns-clause-cause g c = c.put_pieces.ensures.cause
