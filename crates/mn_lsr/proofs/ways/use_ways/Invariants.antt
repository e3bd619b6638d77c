use Rattle.std.proofs.Common.{◌≡◌, ◌≢◌, ◌<◌, ℕ, Some}
use Rattle.mn_labels.specs.Labels.{label_now}
use Rattle.mn_bindings.specs.Bindings.{usable}
use Rattle.mn_lfib.specs.Uses.{use_of, fec_use, IsNotSite}
use Rattle.mn_lsr.proofs.ways.use_ways.Given as goal

abbrev pub invariant-loop-at : goal.invariant-loop-at
invariant-loop-at l = record {
  free : (fec label : ℕ) → label_now l.labels.labels fec ≡ Some label → IsNotSite (use_of l.lfib label);
  ways : (fec label : ℕ) → fec < l.at → label_now l.labels.labels fec ≡ Some label → use_of l.lfib label ≡ fec_use (usable l.bindings.bindings fec);
  others : (label : ℕ) → ((fec : ℕ) → label_now l.labels.labels fec ≢ Some label) → use_of l.lfib label ≡ use_of l.fn.lfib label;
}
