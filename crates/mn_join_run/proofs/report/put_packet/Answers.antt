use Rattle.std.proofs.Common.{ap}
use Rattle.std.specs.List.{flat_map}
use Rattle.mn_tables.proofs.Telling.{told_by, tells_as, tells_then, tells_first}
use Rattle.mn_join_run.specs.Report.{leg_text, end_text}
use Rattle.mn_join_run.proofs.report.put_packet.Goals as goal

pub returns-in_err-put_sent : goal.returns-in_err-put_sent
returns-in_err-put_sent g c = λ pairing both stands are. tells_first _ _ _ _ _ _ c.from_residual.ensures c.in_err-put_sent.ensures

pub returns-in_err-put_legs : goal.returns-in_err-put_legs
returns-in_err-put_legs g c = λ pairing both stands are.
    tells_then _ _ _ _ _ _ (told_by _ _ _ c.in_ok-put_sent.ensures)
    (tells_first _ _ _ _ _ _ c.from_residual-in_err-put_legs.ensures
    (tells_as _ _ _ _ _ (c.in_err-put_legs.ensures pairing both stands are) (ap (flat_map (leg_text pairing both)) (c.legs.ensures.told pairing both stands))))

pub returns-in_err-put : goal.returns-in_err-put
returns-in_err-put g c = λ pairing both stands are.
    tells_then _ _ _ _ _ _ (told_by _ _ _ c.in_ok-put_sent.ensures)
    (tells_then _ _ _ _ _ _
    (told_by _ _ _
    (tells_as _ _ _ _ _ (c.in_ok-put_legs.ensures pairing both stands are) (ap (flat_map (leg_text pairing both)) (c.legs.ensures.told pairing both stands))))
    (tells_first _ _ _ _ _ _ c.from_residual-in_err-put.ensures (record { put = tt; part = c.in_err-put.ensures.part; cause = c.in_err-put.ensures.cause })))

pub returns : goal.returns
returns g c = λ pairing both stands are.
    tells_then _ _ _ _ _ _ (told_by _ _ _ c.in_ok-put_sent.ensures)
    (tells_then _ _ _ _ _ _
    (told_by _ _ _
    (tells_as _ _ _ _ _ (c.in_ok-put_legs.ensures pairing both stands are) (ap (flat_map (leg_text pairing both)) (c.legs.ensures.told pairing both stands))))
    (tells_then _ _ _ _ _ _ (record { puts = c.in_ok-put.ensures.put; faults = c.in_ok-put.ensures.cause })
    (tells_as _ _ _ _ _ (c.put_end.ensures pairing both stands) (ap (end_text pairing) (c.end_of.ensures pairing both stands)))))
