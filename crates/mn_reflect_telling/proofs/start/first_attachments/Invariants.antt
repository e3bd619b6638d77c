use Rattle.std.proofs.Common.{◌≡◌, length, map}
use Rattle.std.specs.List.{range_with_len}
use Rattle.mn_ledger.specs.Places.{sites_at}
use Rattle.mn_reflect_telling.proofs.start.first_attachments.Given as goal

abbrev pub invariant-loop-number : goal.invariant-loop-number
invariant-loop-number l = l.counts.items ≡ map (λ node. length (sites_at l.topology node)) (range_with_len 0 l.number)
