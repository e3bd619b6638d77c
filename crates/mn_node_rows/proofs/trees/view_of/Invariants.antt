use Rattle.std.proofs.Common.{◌≡◌, length}
use Rattle.mn_node_rows.proofs.trees.view_of.Given as goal

abbrev pub invariant-loop-number : goal.invariant-loop-number
invariant-loop-number l = record {
  same_links : length l.db ≡ length l.view.ends;
  ends : l.view.ends ≡ l.ends;
}
