use Rattle.std.proofs.Common.{◌≡◌, ◌++◌, true, take, drop}
use Rattle.mn_failures.proofs.Comments.{code}
use Rattle.mn_failures.proofs.cut.before_comment.Given as goal

abbrev pub invariant-loop-i : goal.invariant-loop-i
invariant-loop-i l = take l.i l.line ++ code l.begins (drop l.i l.line) ≡ code true l.line
