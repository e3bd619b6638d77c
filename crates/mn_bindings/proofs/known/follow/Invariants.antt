use Rattle.std.proofs.Common.{◌≡◌, ◌≤◌, length, replicate, drop}
use Rattle.std.specs.List.{All}
use Rattle.mn_bindings.specs.Known.{rested_events, opened_in}
use Rattle.mn_bindings.proofs.known.follow.Given as goal

abbrev pub invariant-loop-event : goal.invariant-loop-event
invariant-loop-event l = record {
  rest : rested_events l.tick l.rests (drop l.event-index l.events) ≡ rested_events l.tick l.fn.rests l.events;
  owed : length l.rests.owed ≡ length l.fn.rests.owed;
  rested : length l.rests.rested ≡ length l.fn.rests.rested;
  alike : All (λ row. row ≡ replicate (length l.fn.rests.rested) 0) l.rows.items;
  enough : opened_in (drop l.event-index l.events) ≤ length l.rows.items;
}
