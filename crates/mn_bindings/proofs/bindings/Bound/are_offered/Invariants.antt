use Rattle.std.proofs.Common.{◌≡◌, drop}
use Rattle.std.specs.List.{flat_map, list_all}
use Rattle.mn_bindings.specs.declared.news.SoFar.{SoFar}
use Rattle.mn_bindings.specs.Bindings.{nodes}
use Rattle.mn_bindings.specs.News.{so_far_in, fecs_in, AreBelow}
use Rattle.mn_bindings.proofs.bindings.Bound.are_offered.Given as goal

abbrev pub invariant-loop-event : goal.invariant-loop-event
invariant-loop-event l = record {
  rest : list_all (λ (one : SoFar). one.offered) (flat_map (so_far_in l.self) (drop l.event-index l.events)) ≡
      list_all (λ (one : SoFar). one.offered) (flat_map (so_far_in l.self) l.events);
  below : AreBelow (nodes l.self) (fecs_in (drop l.event-index l.events));
}
