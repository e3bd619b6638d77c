use Rattle.std.proofs.Common.{◌≡◌, ◌++◌, None}
use Rattle.std.specs.Prelude.{slice_index_or}
use Rattle.std.specs.List.{flat_map}
use Rattle.mn_pe.specs.Held.{export_at}
use Rattle.mn_pe.proofs.export.put_vrf.Given as goal

-- the statics to come end it
abbrev pub invariant-loop-route : goal.invariant-loop-route
invariant-loop-route l =
    l.out.items ++ flat_map (λ static. export_at l.vrf.vrf l.vrf.vrf.exports static (slice_index_or l.labels static.site None))
    l.route-iterator
    ≡ l.fn.out.items ++ flat_map (λ static. export_at l.vrf.vrf l.vrf.vrf.exports static (slice_index_or l.labels static.site None)) l.vrf.vrf.statics
