use Rattle.std.proofs.Common.{◌≡◌, ◌++◌, take}
use Rattle.mn_reach.specs.Plans.{numbers_of}
use Rattle.mn_reach_run.specs.Lines.{path_text}
use Rattle.mn_reach_run.proofs.line.put_path.Given as goal

abbrev pub invariant-loop-node : goal.invariant-loop-node
invariant-loop-node l = l.line.items ≡ l.fn.line.items ++ path_text l.topology (numbers_of (take l.node-index l.path))
