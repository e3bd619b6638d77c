use Rattle.std.proofs.Common.{◌≡◌, ◌++◌, drop}
use Rattle.mn_pe.specs.Exports.{exports_at_among}
use Rattle.mn_pe.specs.Pe.{told}
use Rattle.mn_pe.proofs.export.exports_at_in.Given as goal

-- the VRFs to come end it
abbrev pub invariant-loop-vrf : goal.invariant-loop-vrf
invariant-loop-vrf l = l.out.items ++ exports_at_among l.labels l.number.0 (told (drop l.vrf-index l.vrfs)) ≡ exports_at_among l.labels l.number.0 (told l.vrfs)
