use Rattle.mn_bindings.proofs.Undoing.{undone-event}
use Rattle.mn_bindings.proofs.bindings.Bound.step.Goals as goal

pub returns-clause-undo : goal.returns-clause-undo
returns-clause-undo c = rw (c.in_ok-undo.ensures.ok, c.in_ok-undo.ensures.undo) (undone-event c.args.self.now c.args.event c.event.ensures.rows c.requires)
