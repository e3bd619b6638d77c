use Rattle.std.proofs.Common.{◌≡◌, ◌++◌, drop}
use Rattle.mn_pe.specs.Exports.{exports_among}
use Rattle.mn_pe.specs.Pe.{told}
use Rattle.mn_pe.proofs.export.exports_in.Given as goal

-- the VRFs to come end it
abbrev pub invariant-loop-vrf : goal.invariant-loop-vrf
invariant-loop-vrf l = l.out.items ++ exports_among l.labels (told (drop l.vrf-index l.vrfs)) ≡ exports_among l.labels (told l.vrfs)
