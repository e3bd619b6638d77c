use Rattle.std.proofs.Common.{◌≡◌, ◌++◌, take}
use Rattle.std.specs.List.{flat_map}
use Rattle.mn_gen.specs.Topology.{vrfs_text}
use Rattle.mn_gen.proofs.topology.put_vrfs.Given as goal

abbrev pub invariant-loop-edge : goal.invariant-loop-edge
invariant-loop-edge l = l.out.items ≡ l.fn.out.items ++ flat_map (vrfs_text) (take l.edge-index l.edges)
