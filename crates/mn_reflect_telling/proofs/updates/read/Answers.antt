use Rattle.mn_reflect_telling.proofs.Saying.{is_other}
use Rattle.mn_reflect_telling.proofs.updates.read.Goals as goal

pub returns-in-Ok-read_bgp : goal.returns-in-Ok-read_bgp
returns-in-Ok-read_bgp c =
    let only = rw c.in-Err-NotUpdate.field-0-is at c.in-Err-NotUpdate.ensures.only in (
      is_other c.args.bytes.now c.in-Ok-read_bgp.message c.requires only c.in-Ok-read_bgp.ensures.found,
      c.in-Ok-read_bgp.ensures.found,
    )
