use Rattle.std.proofs.Common.{sym}
use Rattle.mn_routing.proofs.Rows.{same_ok, fails_only}
use Rattle.mn_routing.proofs.sessions.read.Goals as goal

pub want-requires : goal.want-requires
want-requires c = fails_only c.in-Err.bad c.requires.0 (c.in-Err.ensures.only c.requires.0 c.requires.1)

pub returns-in-Ok : goal.returns-in-Ok
returns-in-Ok c = λ message is. sym (same_ok message c.in-Ok.message (c.in-Ok.ensures.only message is))
