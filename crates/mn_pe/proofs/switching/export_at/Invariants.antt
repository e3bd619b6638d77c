use Rattle.std.proofs.Common.{◌≡◌, ◌++◌, length, map, take, drop}
use Rattle.std.specs.Prelude.{slice_index_or}
use Rattle.mn_vrf.specs.Vrf.{Holding}
use Rattle.mn_pe.specs.Switched.{exporting}
use Rattle.mn_pe.proofs.switching.export_at.Given as goal

-- it was told to those so far
abbrev pub invariant-loop-to : goal.invariant-loop-to
invariant-loop-to l = record {
  so_far : (d : Holding) → l.vrfs.items ≡ map (exporting l.on l.target l.labels (slice_index_or l.fn.vrfs.items l.at d).vrf)
      (take l.to l.fn.vrfs.items) ++ drop l.to l.fn.vrfs.items;
  as_many : length l.vrfs.items ≡ length l.fn.vrfs.items;
}
