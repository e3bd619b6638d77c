use Rattle.std.proofs.Common.{refl}
use Rattle.mn_tables.proofs.Telling.{told_by, tells_as, tells_then, tells_first, counted_err, counted_then}
use Rattle.mn_report.proofs.Rows.{counts_as}
use Rattle.mn_report.proofs.flight.put_flight.Goals as goal

pub returns-in_err-put_counts-clause-told : goal.returns-in_err-put_counts-clause-told
returns-in_err-put_counts-clause-told g c = λ inputs h.
    tells_first _ _ _ _ _ _ c.from_residual.ensures
    (tells_as _ _ _ _ _ c.in_err-put_counts.ensures (counts_as _ _ _ _ (c.pending-notices.ensures.told inputs h) (c.pending-messages.ensures.told inputs h)))

pub returns-in_err-put_counts-clause-cause : goal.returns-in_err-put_counts-clause-cause
returns-in_err-put_counts-clause-cause g c = counted_err _ _ _ _ _ c.from_residual.ensures refl c.in_err-put_counts.ensures.cause

pub returns-clause-told : goal.returns-clause-told
returns-clause-told g c = λ inputs h.
    tells_then _ _ _ _ _ _
    (told_by _ _ _
    (tells_as _ _ _ _ _ c.in_ok-put_counts.ensures
    (counts_as _ _ _ _ (c.pending-notices.ensures.told inputs h) (c.pending-messages.ensures.told inputs h))))
    (c.put_all_frames.ensures.told inputs h)

pub returns-clause-cause : goal.returns-clause-cause
returns-clause-cause g c = counted_then _ _ _ _ c.in_ok-put_counts.ensures.cause c.put_all_frames.ensures.cause
