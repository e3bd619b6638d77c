use Rattle.std.proofs.Common.{◌≡◌, ◌++◌, length, map, take, drop}
use Rattle.std.specs.Prelude.{slice_index_or}
use Rattle.mn_vrf.specs.Vrf.{Holding}
use Rattle.mn_pe.specs.Switched.{attaching}
use Rattle.mn_pe.proofs.switching.attach_at.Given as goal

-- it was told to those so far
abbrev pub invariant-loop-to : goal.invariant-loop-to
invariant-loop-to l = record {
  so_far : (d : Holding) → l.vrfs.items ≡ map (attaching l.on l.site.0 (slice_index_or l.fn.vrfs.items l.at d).vrf)
      (take l.to l.fn.vrfs.items) ++ drop l.to l.fn.vrfs.items;
  as_many : length l.vrfs.items ≡ length l.fn.vrfs.items;
}
