use Rattle.std.proofs.Common.{◌≡◌, ◌++◌, take}
use Rattle.mn_reach_run.specs.Lines.{more_parts_text}
use Rattle.mn_reach_run.proofs.line.put_more.Given as goal

abbrev pub invariant-loop-part : goal.invariant-loop-part
invariant-loop-part l = l.line.items ≡ l.fn.line.items ++ more_parts_text l.topology (take l.part-index l.parts)
