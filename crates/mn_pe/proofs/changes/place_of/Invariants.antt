use Rattle.std.proofs.Common.{◌<◌, ◌≢◌, ℕ}
use Rattle.std.specs.Prelude.{slice_index_or}
use Rattle.mn_vrf.specs.Vrf.{Holding}
use Rattle.mn_pe.proofs.changes.place_of.Given as goal

-- it is none of those so far
abbrev pub invariant-loop-at : goal.invariant-loop-at
invariant-loop-at l = (k : ℕ) (d : Holding) → k < l.at → (slice_index_or l.vrfs k d).vrf.number ≢ l.number.0
