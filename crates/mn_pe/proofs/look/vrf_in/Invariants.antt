use Rattle.std.proofs.Common.{◌≡◌, drop, Some}
use Rattle.mn_pe.specs.Pe.{numbered}
use Rattle.mn_pe.proofs.look.vrf_in.Given as goal

-- it is none of those so far
abbrev pub invariant-loop-vrf : goal.invariant-loop-vrf
invariant-loop-vrf l = numbered l.number.0 Some (drop l.vrf-index l.vrfs) ≡ numbered l.number.0 Some l.vrfs
