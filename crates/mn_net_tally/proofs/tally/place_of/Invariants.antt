use Rattle.std.proofs.Common.{ℕ, ◌≤◌, ◌<◌, ◌-◌, length}
use Rattle.std.specs.Prelude.{slice_index}
use Rattle.mn_net_tally.proofs.tally.place_of.Given as goal

abbrev pub invariant-loop-low : goal.invariant-loop-low
invariant-loop-low l = (l.low ≤ l.high) × (l.high ≤ length l.numbers) × ((k : ℕ) → k < l.low → slice_index l.numbers k < l.number)
    × ((k : ℕ) → l.high ≤ k → k < length l.numbers → l.number ≤ slice_index l.numbers k)

abbrev pub decreases-loop-low : goal.decreases-loop-low
decreases-loop-low l = l.high - l.low
