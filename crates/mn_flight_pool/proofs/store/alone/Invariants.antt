use Rattle.std.proofs.Common.{◌≡◌}
use Rattle.mn_flight_pool.specs.Nodes.{lone_links}
use Rattle.mn_flight_pool.proofs.store.alone.Given as goal

abbrev pub invariant-loop-index : goal.invariant-loop-index
invariant-loop-index l = l.links.items ≡ lone_links l.index
