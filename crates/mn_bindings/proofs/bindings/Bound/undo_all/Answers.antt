use Rattle.mn_bindings.proofs.Undoing.{all_undone-less}
use Rattle.mn_bindings.proofs.bindings.Bound.undo_all.Goals as goal

pub loop-undo-preserved : goal.loop-undo-preserved
loop-undo-preserved c =
    all_undone-less c.loop-undo.self c.undo.new.self c.in-Some.undo c.loop-undo.undos.items c.pop.new.self.items _ c.undo.ensures c.in-Some.ensures.items
    c.loop-undo.invariant
