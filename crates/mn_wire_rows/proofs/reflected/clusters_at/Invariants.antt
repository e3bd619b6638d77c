use Rattle.std.proofs.Common.{◌≤◌, ◌+◌, length}
use Rattle.mn_wire_rows.proofs.reflected.clusters_at.Given as goal

abbrev pub invariant-clusters : goal.invariant-clusters
invariant-clusters l = l.k + length l.clusters.items ≤ l.at
