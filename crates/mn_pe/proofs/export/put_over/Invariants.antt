use Rattle.std.proofs.Common.{◌≡◌, ◌++◌}
use Rattle.std.specs.List.{flat_map}
use Rattle.mn_pe.specs.Exports.{export_over}
use Rattle.mn_pe.proofs.export.put_over.Given as goal

-- the statics to come end it
abbrev pub invariant-loop-route : goal.invariant-loop-route
invariant-loop-route l =
    l.out.items ++ flat_map (export_over l.labels l.vrf.vrf l.vrf.vrf.exports l.site.0) l.route-iterator
    ≡ l.fn.out.items ++ flat_map (export_over l.labels l.vrf.vrf l.vrf.vrf.exports l.site.0) l.vrf.vrf.statics
