use Rattle.std.proofs.Common.{◌≡◌, ◌++◌, length, map, take, drop}
use Rattle.std.specs.Prelude.{slice_index_or}
use Rattle.mn_vrf.specs.Vrf.{Holding}
use Rattle.mn_pe.specs.Changes.{spreading}
use Rattle.mn_pe.proofs.spreading.spread.Given as goal

-- it came to those so far
abbrev pub invariant-loop-i : goal.invariant-loop-i
invariant-loop-i l = record {
  so_far : (d : Holding) → l.vrfs.items ≡ map (spreading (slice_index_or l.fn.vrfs.items l.at d).vrf l.on l.route)
      (take l.i l.fn.vrfs.items) ++ drop l.i l.fn.vrfs.items;
  as_many : length l.vrfs.items ≡ length l.fn.vrfs.items;
}
