use Rattle.std.proofs.Common.{◌≡◌, ◌<◌, ℕ, Some}
use Rattle.mn_ledger.specs.Places.{vrf_at}
use Rattle.mn_reflect_telling.specs.Found.{vrf_with}
use Rattle.mn_reflect_telling.proofs.name.distinguishers.Given as goal

-- the VRFs so far are found
abbrev pub invariant-loop-number : goal.invariant-loop-number
invariant-loop-number l = (v : ℕ) → v < l.number → vrf_with l.vrfs (vrf_at l.topology v).rd.0 ≡ Some (record { 0 = v })
