use Rattle.std.proofs.Common.{◌∙◌, ap, sym}
use Rattle.mn_edge.specs.declared.device.DeviceBad.TheVariants.{NoMemory}
use Rattle.mn_tables.proofs.Telling.{tells_as, tells_err, tells_want, tells_nothing}
use Rattle.mn_reach.specs.Verdicts.{fate_as}
use Rattle.mn_reach_run.specs.Lines.{change_line}
use Rattle.mn_reach_run.proofs.tell.tell_change.Goals as goal

pub returns-in-Nothing : goal.returns-in-Nothing
returns-in-Nothing g c = λ count is.
    tells_as _ _ _ _ _ (tells_nothing _)
    (sym (ap (λ change. change_line c.args.case.at.topology.now count c.args.pair change (fate_as c.args.desk.now.verdict)) c.in-Nothing.is))

pub returns-in_err-write_change : goal.returns-in_err-write_change
returns-in_err-write_change g c = λ count is. tells_err _ _ _ NoMemory _ c.from_residual.ensures (tells_want _ _)

pub returns : goal.returns
returns g c = λ count is. tells_as _ _ _ _ _ c.put_pieces.ensures (c.as_slice.ensures.value ∙ c.in_ok-write_change.ensures count is)
