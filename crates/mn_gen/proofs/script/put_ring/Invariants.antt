use Rattle.std.proofs.Common.{◌≡◌, ◌++◌, take}
use Rattle.std.specs.List.{flat_map}
use Rattle.mn_gen.specs.Script.{ring_up}
use Rattle.mn_gen.proofs.script.put_ring.Given as goal

abbrev pub invariant-loop-node : goal.invariant-loop-node
invariant-loop-node l = l.out.items ≡ l.fn.out.items ++ flat_map (ring_up l.number) (take l.node-index l.nodes)
