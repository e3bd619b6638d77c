use Rattle.std.proofs.Common.{◌≡◌, ◌++◌, drop}
use Rattle.std.specs.List.{flat_map}
use Rattle.mn_bindings.specs.News.{told_since}
use Rattle.mn_bindings.proofs.bindings.Bound.changes.Given as goal

abbrev pub invariant-loop-one : goal.invariant-loop-one
invariant-loop-one l =
    l.tells.items ++ flat_map (told_since l.self l.events) (drop l.one-index l.before) ≡ l.initial.tells.items ++ flat_map
    (told_since l.self l.events) l.before
