use Rattle.std.proofs.Common.{arith}
use Rattle.std.proofs.lemmas.Grind.{common_steps}
use Rattle.mn_bindings.proofs.Undoing.{all_undone-more}
use Rattle.mn_bindings.proofs.bindings.Bound.follow.Goals as goal

pub loop-event-preserved : goal.loop-event-preserved
loop-event-preserved c = record {
  fit = grind (arith, common_steps, c.in_ok-undo.ensures.ok, c.loop-event.invariant.fit);
  rest = grind (arith, common_steps, c.in_ok-undo.ensures.ok, c.loop-event.invariant.rest);
  back = all_undone-more c.loop-event.self c.step.new.self c.in_ok-undo.undo c.loop-event.undos.items c.reserve.new.self.items
      c.push_reserved.new.self.items _ c.in_ok-undo.ensures.undo c.reserve.ensures.items c.push_reserved.ensures.items c.loop-event.invariant.back;
}
