use Rattle.std.proofs.Common.{◌∙◌}
use Rattle.mn_edge.specs.declared.device.DeviceBad.TheVariants.{NoMemory}
use Rattle.mn_tables.proofs.Telling.{tells_as, tells_err, tells_want}
use Rattle.mn_reach_run.proofs.tell.tell_pair.Goals as goal

pub returns-in_err-write_pair : goal.returns-in_err-write_pair
returns-in_err-write_pair g c = tells_err _ _ _ NoMemory _ c.from_residual.ensures (tells_want _ _)

pub returns : goal.returns
returns g c = tells_as _ _ _ _ _ c.put_pieces.ensures (c.as_slice.ensures.value ∙ c.in_ok-write_pair.ensures)
