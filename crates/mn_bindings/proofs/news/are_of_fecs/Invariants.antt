use Rattle.std.proofs.Common.{drop}
use Rattle.mn_bindings.specs.News.{InOrder}
use Rattle.mn_bindings.proofs.news.are_of_fecs.Given as goal

abbrev pub invariant-loop-event : goal.invariant-loop-event
invariant-loop-event l = record {
  some : InOrder l.least (drop l.event-index l.events) → InOrder 0 l.events;
  all : InOrder 0 l.events → InOrder l.least (drop l.event-index l.events);
}
