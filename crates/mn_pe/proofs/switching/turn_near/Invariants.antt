use Rattle.std.proofs.Common.{◌≡◌, drop, map}
use Rattle.mn_vrf.specs.Vrf.{Holding}
use Rattle.mn_pe.specs.Switched.{after_vrfs}
use Rattle.mn_pe.proofs.switching.turn_near.Given as goal

-- the routes to come end it
abbrev pub invariant-loop-vrf : goal.invariant-loop-vrf
invariant-loop-vrf l = after_vrfs l.on l.target l.labels l.number.0 l.imports l.held
    (map (λ (holding : Holding). holding.vrf) (drop l.vrf-index l.vrfs)) ≡ after_vrfs l.on l.target l.labels l.number.0 l.imports l.fn.held
    (map (λ (holding : Holding). holding.vrf) l.vrfs)
