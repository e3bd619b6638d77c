use Rattle.std.proofs.Common.{◌-◌, ◌≡◌, ◌<◌, ◌≤◌, ℕ, true, false, length, slice_index_or}
use Rattle.mn_vrf.specs.declared.source.Source.{Source as From}
use Rattle.mn_vrf.specs.Routes.{source_before}
use Rattle.mn_vrf.proofs.sources.Sources.place.Given as goal

-- those below `low` stand before the place, and those from `high` on don't
abbrev pub invariant-loop-low : goal.invariant-loop-low
invariant-loop-low l = record {
  order : l.low ≤ l.high;
  within : l.high ≤ length l.self;
  below : (k : ℕ) (d : From) → k < l.low → source_before (slice_index_or l.self k d) l.source ≡ true;
  above : (k : ℕ) (d : From) → l.high ≤ k → k < length l.self → source_before (slice_index_or l.self k d) l.source ≡ false;
}

abbrev pub decreases-loop-low : goal.decreases-loop-low
decreases-loop-low l = l.high - l.low
