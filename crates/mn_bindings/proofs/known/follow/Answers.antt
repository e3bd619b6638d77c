use Rattle.std.proofs.Common.{◌≡◌, ◌∙◌, ap, sym, subst, length, replicate}
use Rattle.std.specs.List.{All}
use Rattle.mn_releases.specs.Rests.{Resting}
use Rattle.mn_bindings.proofs.Resting.{event_owed, event_rested, one_more_followed, enough_left, enough_now, fits_still}
use Rattle.mn_bindings.proofs.known.follow.Goals as goal

pub follow_one-requires-clause-fit : goal.follow_one-requires-clause-fit
follow_one-requires-clause-fit c =
    fits_still c.args.events.now c.loop-event.event-index _ _ _ _ _ c.loop-event-test.true c.requires.fit c.loop-event.invariant.owed
    c.loop-event.invariant.rested

pub follow_one-requires-clause-rows : goal.follow_one-requires-clause-rows
follow_one-requires-clause-rows c =
    subst (λ n. All (λ row. row ≡ replicate n 0) c.loop-event.rows.items) (sym c.loop-event.invariant.rested) c.loop-event.invariant.alike

pub follow_one-requires-clause-enough : goal.follow_one-requires-clause-enough
follow_one-requires-clause-enough c = enough_now c.args.events.now c.loop-event.event-index _ _ c.loop-event-test.true c.loop-event.invariant.enough

pub loop-event-preserved : goal.loop-event-preserved
loop-event-preserved c = record {
  rest = one_more_followed c.args.tick c.loop-event.rests c.follow_one.new.rests _ c.args.events.now c.loop-event.event-index _ c.loop-event-test.true
      c.loop-event.invariant.rest c.follow_one.ensures.after;
  owed = ap (λ (r : Resting). length r.owed) c.follow_one.ensures.after ∙ event_owed _ _ _ ∙ c.loop-event.invariant.owed;
  rested = ap (λ (r : Resting). length r.rested) c.follow_one.ensures.after ∙ event_rested _ _ _ ∙ c.loop-event.invariant.rested;
  alike = subst (λ n. All (λ row. row ≡ replicate n 0) c.follow_one.new.rows.items) c.loop-event.invariant.rested c.follow_one.ensures.alike;
  enough = enough_left c.args.events.now c.loop-event.event-index _ _ _ c.loop-event-test.true c.loop-event.invariant.enough c.follow_one.ensures.rows;
}
