use Rattle.std.proofs.Common.{ℕ, ◌≡◌, ◌<◌, length, [], get_or}
use Rattle.mn_way.specs.Switched.{AreAtNode}
use Rattle.mn_way.proofs.links.links_by_node.Given as goal

abbrev pub invariant-loop-node : goal.invariant-loop-node
invariant-loop-node l = record {
  count : length l.lists.items ≡ l.node;
  at : (n : ℕ) → n < l.node → AreAtNode l.ends l.nodes n (get_or l.lists.items n []);
}
