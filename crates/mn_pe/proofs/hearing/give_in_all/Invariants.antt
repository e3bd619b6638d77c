use Rattle.std.proofs.Common.{◌≡◌, ◌++◌, map, take, drop}
use Rattle.mn_pe.specs.Pe.{giving}
use Rattle.mn_pe.proofs.hearing.give_in_all.Given as goal

-- those so far have given it up
abbrev pub invariant-loop-at : goal.invariant-loop-at
invariant-loop-at l = l.vrfs.items ≡ map (giving (l.prefix, l.source)) (take l.at l.fn.vrfs.items) ++ drop l.at l.fn.vrfs.items
