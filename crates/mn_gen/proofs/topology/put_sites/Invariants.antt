use Rattle.std.proofs.Common.{◌≡◌, ◌++◌, take}
use Rattle.std.specs.List.{flat_map}
use Rattle.mn_gen.specs.Topology.{sites_text}
use Rattle.mn_gen.proofs.topology.put_sites.Given as goal

abbrev pub invariant-loop-edge : goal.invariant-loop-edge
invariant-loop-edge l = l.out.items ≡ l.fn.out.items ++ flat_map (sites_text) (take l.edge-index l.edges)
