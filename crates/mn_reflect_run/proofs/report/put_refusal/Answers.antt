use Rattle.std.proofs.Common.{◌++◌, ◌∙◌, ap}
use Rattle.mn_edge.specs.declared.device.DeviceBad.TheVariants.{NoMemory}
use Rattle.mn_lines.specs.Lines.{refused_line, cause_text}
use Rattle.mn_tables.proofs.Telling.{tells_as, tells_err, tells_want}
use Rattle.mn_reflect_run.proofs.report.put_refusal.Goals as goal

pub returns-in_err-write_refusal : goal.returns-in_err-write_refusal
returns-in_err-write_refusal g c = tells_err _ _ _ NoMemory _ c.from_residual.ensures (tells_want _ _)

pub returns : goal.returns
returns g c = tells_as _ _ _ _ _ c.put_pieces.ensures
    (c.as_slice.ensures.value ∙ c.in_ok-write_refusal.ensures.ok
    ∙ ap (λ xs. xs ++ refused_line c.args.number (cause_text c.args.topology.now.site_names c.args.cause)) c.clear.ensures.items)
