use Rattle.std.proofs.Common.{◌≡◌, All, length, map, replicate, take, true}
use Rattle.mn_way.specs.Switched.{Follows, roots_of}
use Rattle.mn_way.proofs.trees.trees_of.Given as goal

abbrev pub invariant-loop-edge : goal.invariant-loop-edge
invariant-loop-edge l = record {
  roots : roots_of l.trees.items ≡ map (λ edge. edge.0) (take l.edge-index l.edges);
  follow : All (Follows l.links (replicate (length l.links.ends) true)) l.trees.items;
}
