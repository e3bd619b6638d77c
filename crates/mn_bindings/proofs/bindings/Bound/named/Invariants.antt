use Rattle.std.proofs.Common.{◌≡◌, ◌++◌, drop}
use Rattle.std.specs.List.{flat_map}
use Rattle.mn_bindings.specs.Bindings.{nodes}
use Rattle.mn_bindings.specs.News.{so_far_in, fecs_in, AreBelow}
use Rattle.mn_bindings.proofs.bindings.Bound.named.Given as goal

abbrev pub invariant-loop-event : goal.invariant-loop-event
invariant-loop-event l = record {
  all : l.all.items ++ flat_map (so_far_in l.self) (drop l.event-index l.events) ≡ flat_map (so_far_in l.self) l.events;
  below : AreBelow (nodes l.self) (fecs_in (drop l.event-index l.events));
}
