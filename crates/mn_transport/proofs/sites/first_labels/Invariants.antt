use Rattle.std.proofs.Common.{◌≡◌, map}
use Rattle.std.specs.List.{range_with_len}
use Rattle.mn_transport_laws.specs.Starting.{first_label, AreFirst}
use Rattle.mn_transport.proofs.sites.first_labels.Given as goal

abbrev pub invariant-loop-number : goal.invariant-loop-number
invariant-loop-number l =
    record { first : AreFirst l.topology l.number l.nodes.items; labels : l.labels.items ≡ map (first_label l.topology) (range_with_len 0 l.number) }
