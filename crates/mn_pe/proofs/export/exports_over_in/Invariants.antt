use Rattle.std.proofs.Common.{◌≡◌, ◌++◌, drop}
use Rattle.mn_pe.specs.Exports.{exports_over_among}
use Rattle.mn_pe.specs.Pe.{told}
use Rattle.mn_pe.proofs.export.exports_over_in.Given as goal

-- the VRFs to come end it
abbrev pub invariant-loop-vrf : goal.invariant-loop-vrf
invariant-loop-vrf l = l.out.items ++ exports_over_among l.labels l.number.0 l.site.0
    (told (drop l.vrf-index l.vrfs)) ≡ exports_over_among l.labels l.number.0 l.site.0 (told l.vrfs)
