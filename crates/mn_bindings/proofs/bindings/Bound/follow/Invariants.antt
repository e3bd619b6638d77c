use Rattle.std.proofs.Common.{◌≡◌, drop}
use Rattle.mn_bindings.specs.Bindings.{EventsFit, after_events}
use Rattle.mn_bindings.specs.Undoing.{all_undone}
use Rattle.mn_bindings.proofs.bindings.Bound.follow.Given as goal

abbrev pub invariant-loop-event : goal.invariant-loop-event
invariant-loop-event l = record {
  fit : EventsFit l.self (drop l.event-index l.events);
  rest : after_events l.self (drop l.event-index l.events) ≡ after_events l.fn.self l.events;
  back : all_undone l.self l.undos.items ≡ all_undone l.fn.self l.initial.undos.items;
}
