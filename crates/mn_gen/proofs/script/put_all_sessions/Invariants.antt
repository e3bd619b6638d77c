use Rattle.std.proofs.Common.{◌≡◌, ◌++◌, take}
use Rattle.std.specs.List.{flat_map}
use Rattle.mn_gen.specs.Script.{sessions_up}
use Rattle.mn_gen.proofs.script.put_all_sessions.Given as goal

abbrev pub invariant-loop-edge : goal.invariant-loop-edge
invariant-loop-edge l = l.out.items ≡ l.fn.out.items ++ flat_map (sessions_up l.edges) (take l.edge-index l.edges)
