use Rattle.std.proofs.Common.{◌≡◌, map, None}
use Rattle.std.specs.Prelude.{replicate}
use Rattle.mn_edges.proofs.start.no_sessions.Given as goal

abbrev pub invariant-loop-node : goal.invariant-loop-node
invariant-loop-node l = map (λ row. row.items) l.rows.items ≡ replicate l._node (replicate l.nodes None)
