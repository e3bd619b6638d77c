use Rattle.std.proofs.Common.{◌∙◌, ap, length, replicate, cond}
use Rattle.mn_bindings.specs.Known.{Known}
use Rattle.mn_bindings.proofs.Resting.{pushed_alike, pushed_enough, same_enough}
use Rattle.mn_bindings.proofs.known.Lib.rows.Goals as goal
use Rattle.mn_bindings.proofs.known.Lib.rows.Goals.{then-is_opening+in_ok-row+in_ok-push, else-is_opening}

pub loop-event-preserved : goal.loop-event-preserved
loop-event-preserved c = elim c.if-is_opening.branch [
  | then-is_opening+in_ok-row+in_ok-push w ↦
      let items = ap (λ v. v.items) w.rows-is ∙ w.in_ok-push.ensures.items in
      record {
        alike = pushed_alike c.loop-event.rows.items c.if-is_opening.rows.items _ _ items c.loop-event.invariant.alike
            (w.in_ok-row.ensures ∙ ap (λ (k : Known). replicate (length k.resting.rested) 0) c.self.view_is);
        enough = pushed_enough c.args.events.now c.loop-event.event-index _ c.loop-event.rows.items c.if-is_opening.rows.items _ c.loop-event-test.true items
            c.loop-event.invariant.enough (c.is_opening.ensures ∙ ap (λ b. cond b 1 0) w.if-is_opening.true);
      }
  | else-is_opening w ↦
      rw w.rows-is (record {
        alike = c.loop-event.invariant.alike;
        enough = same_enough c.args.events.now c.loop-event.event-index _ _ c.loop-event-test.true c.loop-event.invariant.enough
            (c.is_opening.ensures ∙ ap (λ b. cond b 1 0) w.if-is_opening.false);
      })
]
