use Rattle.std.proofs.Common.{◌++◌, ap, ◌∙◌}
use Rattle.mn_edge.specs.declared.device.DeviceBad.TheVariants.{NoMemory}
use Rattle.mn_text.specs.Addresses.{prefix_text}
use Rattle.mn_tables.proofs.Telling.{tells_err, tells_want}
use Rattle.mn_reflect_run.proofs.report.put_route.Goals as goal

pub returns-in_err-put_prefix : goal.returns-in_err-put_prefix
returns-in_err-put_prefix g c = λ labels route is_prefix is_source. tells_err _ _ _ NoMemory _ c.from_residual.ensures (tells_want _ _)

pub returns : goal.returns
returns g c = λ labels route is_prefix is_source. c.put_from.ensures labels route
    (c.as_slice.ensures.value ∙ c.in_ok-put_prefix.ensures.ok ∙ ap (λ xs. xs ++ prefix_text c.args.found.0) c.clear.ensures.items
    ∙ ap prefix_text is_prefix) is_source
