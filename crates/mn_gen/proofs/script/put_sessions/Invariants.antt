use Rattle.std.proofs.Common.{◌≡◌, ◌++◌, take}
use Rattle.mn_gen.specs.Script.{sessions_up}
use Rattle.mn_gen.proofs.script.put_sessions.Given as goal

abbrev pub invariant-loop-peer : goal.invariant-loop-peer
invariant-loop-peer l = l.out.items ≡ l.fn.out.items ++ sessions_up (take l.peer-index l.all) l.edge
