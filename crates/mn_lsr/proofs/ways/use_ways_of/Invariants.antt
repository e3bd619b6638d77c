use Rattle.std.proofs.Common.{ℕ, ◌≡◌, ◌≢◌, drop, Some}
use Rattle.mn_labels.specs.Labels.{label_now}
use Rattle.mn_bindings.specs.Bindings.{nodes, usable}
use Rattle.mn_bindings.specs.News.{AreBelow, Apart, fecs_in}
use Rattle.mn_lfib.specs.Uses.{use_of, fec_use, IsNotSite}
use Rattle.mn_lsr.proofs.ways.use_ways_of.Given as goal

abbrev pub invariant-loop-event : goal.invariant-loop-event
invariant-loop-event l = record {
  there : AreBelow (nodes l.bindings.bindings) (fecs_in (drop l.event-index l.events));
  free : (fec label : ℕ) → label_now l.labels.labels fec ≡ Some label → IsNotSite (use_of l.lfib label);
  ways : (fec label : ℕ) → label_now l.labels.labels fec ≡ Some label →
      (Apart fec (fecs_in l.events) → use_of l.fn.lfib label ≡ fec_use (usable l.bindings.bindings fec))
      → Apart fec (fecs_in (drop l.event-index l.events)) → use_of l.lfib label ≡ fec_use (usable l.bindings.bindings fec);
  others : (label : ℕ) → ((fec : ℕ) → label_now l.labels.labels fec ≢ Some label) → use_of l.lfib label ≡ use_of l.fn.lfib label;
}
