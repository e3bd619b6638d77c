use Rattle.std.proofs.Common.{◌++◌, ◌∙◌, ap}
use Rattle.mn_edge.specs.declared.device.DeviceBad.TheVariants.{NoMemory}
use Rattle.mn_tables.proofs.Telling.{tells_as, tells_err, tells_want}
use Rattle.mn_report.specs.Shown.{shown_text}
use Rattle.mn_report.proofs.refused.put_refused.Goals as goal

pub returns-in_err-write_shown : goal.returns-in_err-write_shown
returns-in_err-write_shown g c =
    let x = tells_err (shown_text c.args.topology.now c.args.number c.args.shown) _ _ NoMemory _ c.from_residual.ensures (tells_want _ _) in
    record { put = x.put; part = x.part; cause = x.cause }

pub returns : goal.returns
returns g c =
    let x = tells_as _ _ _ _ _ c.put_line.ensures
    (c.as_slice.ensures.value ∙ c.in_ok-write_shown.ensures
    ∙ ap (λ xs. xs ++ shown_text c.args.topology.now c.args.number c.args.shown) c.clear.ensures.items) in
    record { put = x.put; part = x.part; cause = x.cause }
