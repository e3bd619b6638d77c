use Rattle.std.proofs.Common.{refl, sym, subst, ap, ◌∙◌}
use Rattle.mn_flight.specs.Flying.{off_channel}
use Rattle.mn_transit.specs.Stands.{StandsFor}
use Rattle.mn_transit.proofs.Counts.{counts_then, counts_taken, counts_judged, counts_spare}
use Rattle.mn_transit.proofs.Taking.{fewer}
use Rattle.mn_transit.proofs.Going.{cuts_first, cuts_none, off_first, off_none, stands_still}
use Rattle.mn_transit.proofs.transit.Transit.cut.Goals as goal

pub frames-smaller : goal.frames-smaller
frames-smaller c =
    rw (c.judge.ensures, c.in-Some.ensures.left)
    (fewer _ c.channel_of-at.result 0 c.frames.self.flying c.in-Some.taken c.take.ensures.flight c.in-Some.ensures.taken)

pub frames-preserved : goal.frames-preserved
frames-preserved c = record {
  at = c.frames.invariant.at;
  node = c.frames.invariant.node;
  topology = refl;
  cuts = λ given packets stands.
      let before = c.frames.invariant.cuts given packets stands in
      let step = cuts_first _ given _ _ _ before.0 _ c.args.link c.args.dir c.sender-from.result c.in-Some.taken c.frames.invariant.at c.frames.invariant.node
      (record { found = c.in-Some.ensures.taken; left = c.in-Some.ensures.left; flight = c.take.ensures.flight }) c.judge.ensures before.1 in
      (step.0, step.1, step.2 ∙ before.2);
  left =
      off_first c.frames.self c.take.new.self c.judge.new.self c.channel_of-at.result c.in-Some.taken _ (record {
        found = c.in-Some.ensures.taken;
        left =
            c.in-Some.ensures.left;
        flight = c.take.ensures.flight;
      }) c.judge.ensures
      ∙ c.frames.invariant.left;
  counts =
      let taken = counts_taken c.frames.self c.take.new.self _ _ c.in-Some.taken c.take.ensures.flight c.in-Some.ensures.taken c.in-Some.ensures.left in
      counts_then c.args.self.now c.frames.self c.judge.new.self 0 0 0 0 0 0 c.frames.invariant.counts
      (counts_then _ c.take.new.self _ 0 0 0 0 0 0 taken.0 (counts_judged _ _ _ 0 0 _ c.judge.ensures));
}

pub returns-clause-cut : goal.returns-clause-cut
returns-clause-cut c = λ given packets stands.
    let before = c.frames.invariant.cuts given packets stands in
    let done = cuts_none _ given _ before.0 _ c.args.link.0 c.args.dir c.frames.invariant.at c.in_default.ensures.taken before.1 in
    subst (λ k. StandsFor c.args.topology.now given c.take.new.self k) (sym done ∙ before.2)
    (stands_still _ given _ _ before.0 _ c.in_default.ensures.left before.1)

pub returns-clause-left : goal.returns-clause-left
returns-clause-left c =
    off_none c.frames.self c.take.new.self c.channel_of-at.result c.take.ensures.flight c.in_default.ensures.taken c.in_default.ensures.left
    ∙ c.frames.invariant.left ∙ ap (λ a. off_channel a c.args.self.now.flying) c.frames.invariant.at

pub returns-clause-counts : goal.returns-clause-counts
returns-clause-counts c = counts_then _ _ _ 0 0 0 0 0 0 c.frames.invariant.counts (counts_spare c.frames.self c.take.new.self _ c.in_default.ensures.left)
