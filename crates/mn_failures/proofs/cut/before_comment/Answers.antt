use Rattle.std.proofs.Common.{arith}
use Rattle.mn_failures.proofs.Comments.{no_comment}
use Rattle.mn_failures.proofs.cut.before_comment.Goals as goal

pub returns : goal.returns
returns c = no_comment c.args.line.now c.loop-i.i c.loop-i.begins (omega arith) c.loop-i.invariant
