use Rattle.std.proofs.Common.{◌≡◌, ◌++◌, drop}
use Rattle.std.specs.List.{flat_map}
use Rattle.mn_base.specs.declared.numbers.NodeNo.{NodeNo}
use Rattle.mn_bindings.specs.Tells.{told}
use Rattle.mn_bindings.proofs.bindings.Bound.tell.Given as goal

abbrev pub invariant-loop-to : goal.invariant-loop-to
invariant-loop-to l =
    l.tells.items ++ flat_map (λ (to : NodeNo). told l.before l.self l.events l.fec.0 to.0) (drop l.to-index l.to-items)
    ≡ l.initial.tells.items ++ flat_map (λ (to : NodeNo). told l.before l.self l.events l.fec.0 to.0) l.to-items
