use Rattle.std.proofs.Common.{◌≡◌, ◌≤◌, ◌+◌, ◌*◌, ◌∷◌, ◌++◌, take}
use Rattle.std.specs.List.{flat_map}
use Rattle.mn_lines.specs.Names.{name_at}
use Rattle.mn_lines.proofs.packet.lay_path.Given as goal

abbrev pub invariant-loop-node : goal.invariant-loop-node
invariant-loop-node l = record {
  most : l.end ≤ l.at + 33 * l.node-index;
  laid : take l.end l.bytes ≡ take l.at l.initial.bytes ++ flat_map (λ node. 32 ∷ name_at l.topology.node_names node.0) (take l.node-index l.path);
}
