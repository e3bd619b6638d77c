use Rattle.std.proofs.Common.{◌≡◌, length}
use Rattle.mn_transport_laws.specs.Starting.{IsFirst}
use Rattle.mn_transport_laws.proofs.Lists.{Each}
use Rattle.mn_transport.proofs.sites.nodes_over.Given as goal

abbrev pub invariant-loop-number : goal.invariant-loop-number
invariant-loop-number l = record { count : length l.nodes.items ≡ l.number; first : Each (IsFirst l.topology 0) l.nodes.items }
