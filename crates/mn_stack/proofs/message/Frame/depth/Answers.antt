use Rattle.std.proofs.Common.{sym}
use Rattle.mn_stack.proofs.Kept.{length-entries}
use Rattle.mn_stack.proofs.message.Frame.depth.Goals as goal

pub returns-clause-depth : goal.returns-clause-depth
returns-clause-depth c = rw (← c.self.view_is) (sym (length-entries c.self.inside.room c.self.inside.depth c.self.inside.bytes.items c.self.invariant))
