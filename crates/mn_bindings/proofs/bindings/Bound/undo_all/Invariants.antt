use Rattle.std.proofs.Common.{◌≡◌, vec_len}
use Rattle.mn_bindings.specs.Undoing.{all_undone}
use Rattle.mn_bindings.proofs.bindings.Bound.undo_all.Given as goal

abbrev pub invariant-loop-undo : goal.invariant-loop-undo
invariant-loop-undo l = all_undone l.self l.undos.items ≡ all_undone l.initial.self l.initial.undos.items

abbrev pub decreases-loop-undo : goal.decreases-loop-undo
decreases-loop-undo l = vec_len l.undos
