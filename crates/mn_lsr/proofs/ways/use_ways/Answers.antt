use Rattle.std.proofs.Common.{ℕ, ◌≢◌, ◌+◌, ◌<◌, arith, ◌∙◌}
use Rattle.mn_bindings.specs.Bindings.{usable}
use Rattle.mn_lsr.proofs.Labels.{free_set, way_set}
use Rattle.mn_lsr.proofs.ways.use_ways.Goals as goal

below_it : (fec at : ℕ) → fec < at + 1 → fec ≢ at → fec < at
below_it fec at h d = omega (arith, h, d)

pub loop-at-preserved : goal.loop-at-preserved
loop-at-preserved c =
    let at : ℕ = c.loop-at.at in
    let labels = c.args.labels.now.labels in
    let set = c.in_ok-use_way.ensures.way in
    let others = c.in_ok-use_way.ensures.others in
    record {
      free = free_set labels at c.loop-at.lfib c.use_way.new.lfib (usable c.args.bindings.now.bindings at) c.loop-at.invariant.free set others;
      ways = λ fec label h e. way_set labels c.requires.told at c.loop-at.lfib c.use_way.new.lfib (usable c.args.bindings.now.bindings) set others fec label e
          (λ d. c.loop-at.invariant.ways fec label (below_it fec at h d) e);
      others = λ label off. others label (off at) ∙ c.loop-at.invariant.others label off;
    }
