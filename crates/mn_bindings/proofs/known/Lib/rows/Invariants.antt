use Rattle.std.proofs.Common.{◌≡◌, ◌≤◌, length, replicate, take}
use Rattle.std.specs.List.{All}
use Rattle.mn_bindings.specs.Known.{opened_in}
use Rattle.mn_bindings.proofs.known.Lib.rows.Given as goal

abbrev pub invariant-loop-event : goal.invariant-loop-event
invariant-loop-event l = record {
  alike : All (λ row. row ≡ replicate (length l.self.resting.rested) 0) l.rows.items;
  enough : opened_in (take l.event-index l.events) ≤ length l.rows.items;
}
