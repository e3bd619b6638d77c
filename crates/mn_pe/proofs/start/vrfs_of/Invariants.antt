use Rattle.std.proofs.Common.{◌≡◌, ◌++◌, drop}
use Rattle.std.specs.List.{AllByRecursion}
use Rattle.mn_pe.specs.Pe.{told}
use Rattle.mn_pe.specs.Start.{vrfs_from, HoldsNone}
use Rattle.mn_pe.proofs.start.vrfs_of.Given as goal

-- the VRFs to come end it
abbrev pub invariant-loop-at : goal.invariant-loop-at
invariant-loop-at l = record {
  so_far : told l.out.items ++ vrfs_from l.sites l.node.0 l.at (drop l.at l.vrfs) ≡ vrfs_from l.sites l.node.0 0 l.vrfs;
  none : AllByRecursion HoldsNone l.out.items;
}
