use Rattle.std.proofs.Common.{◌≡◌, ◌++◌, map, take, drop}
use Rattle.mn_pe.specs.Pe.{offering}
use Rattle.mn_pe.proofs.hearing.offer_in_all.Given as goal

-- those so far have been offered it
abbrev pub invariant-loop-at : goal.invariant-loop-at
invariant-loop-at l = l.vrfs.items ≡ map (offering (l.prefix, l.source) l.targets) (take l.at l.fn.vrfs.items) ++ drop l.at l.fn.vrfs.items
