use Rattle.std.proofs.Common.{refl, ◌∙◌}
use Rattle.mn_transit.proofs.Aging.{old_taken, ages_first, ages_done, left_first, left_none, order_taken, order_left}
use Rattle.mn_transit.proofs.Counts.{counts_then, counts_taken, counts_judged, counts_spare}
use Rattle.mn_transit.proofs.Taking.{fewer}
use Rattle.mn_transit.proofs.transit.Transit.expire_on.Goals as goal

pub frames-smaller : goal.frames-smaller
frames-smaller c =
    let old = old_taken c.args.topology.now c.args.clock c.args.link.0 c.channel_of-at.result c.limit_on-limit.result c.frames.self c.take_before.new.self
    c.in-Some.taken
    c.requires.link c.frames.invariant.limit c.in-Some.ensures.taken c.in-Some.ensures.left c.take_before.ensures.flight in
    rw (c.judge.ensures, c.in-Some.ensures.left)
    (fewer _ c.channel_of-at.result 0 c.frames.self.flying c.in-Some.taken c.take_before.ensures.flight old.takes.found)

pub frames-preserved : goal.frames-preserved
frames-preserved c =
    let old = old_taken c.args.topology.now c.args.clock c.args.link.0 c.channel_of-at.result c.limit_on-limit.result c.frames.self c.take_before.new.self
    c.in-Some.taken
    c.requires.link c.frames.invariant.limit c.in-Some.ensures.taken c.in-Some.ensures.left c.take_before.ensures.flight in
    record {
      at = c.frames.invariant.at;
      node = c.frames.invariant.node;
      limit = c.frames.invariant.limit;
      topology = refl;
      ages = λ given packets stands due.
          let before = c.frames.invariant.ages given packets stands due in
          let step = ages_first c.args.topology.now given c.args.clock _ _ _ before.0 _ c.args.link c.args.dir c.sender-from.result c.in-Some.taken
          c.frames.invariant.at c.frames.invariant.node old c.judge.ensures before.1 before.2 in
          (step.0, step.1, step.2, step.3 ∙ before.3);
      left =
          left_first c.args.topology.now c.args.clock c.args.link.0 c.args.dir c.frames.self c.take_before.new.self c.judge.new.self c.channel_of-at.result
          c.in-Some.taken _ c.frames.invariant.at old c.judge.ensures ∙ c.frames.invariant.left;
      order = order_taken c.args.topology.now c.args.clock c.args.link.0 c.frames.self c.take_before.new.self c.judge.new.self c.channel_of-at.result
          c.in-Some.taken _ old c.judge.ensures c.frames.invariant.order;
      counts =
          let taken = counts_taken c.frames.self c.take_before.new.self _ _ c.in-Some.taken c.take_before.ensures.flight old.takes.found
          c.in-Some.ensures.left in
          counts_then c.args.self.now c.frames.self c.judge.new.self 0 0 0 0 0 0 c.frames.invariant.counts
          (counts_then _ c.take_before.new.self _ 0 0 0 0 0 0 taken.0 (counts_judged _ _ _ 0 0 _ c.judge.ensures));
    }

pub returns-clause-moved : goal.returns-clause-moved
returns-clause-moved c = λ given packets stands due.
    ages_done c.args.topology.now given c.args.clock c.frames.self c.take_before.new.self packets c.channel_of-at.result c.limit_on-limit.result c.args.link.0
    c.args.dir c.requires.link c.frames.invariant.limit c.frames.invariant.at c.in_default.ensures.taken c.frames.invariant.order c.in_default.ensures.left
    (c.frames.invariant.ages given packets stands due)

pub returns-clause-left : goal.returns-clause-left
returns-clause-left c =
    left_none c.args.topology.now c.args.clock c.args.link.0 c.args.dir c.frames.self c.take_before.new.self c.channel_of-at.result c.limit_on-limit.result
    c.requires.link c.frames.invariant.limit c.frames.invariant.at c.in_default.ensures.taken c.frames.invariant.order c.in_default.ensures.left
    ∙ c.frames.invariant.left

pub returns-clause-order : goal.returns-clause-order
returns-clause-order c =
    order_left c.args.topology.now c.args.clock _ c.frames.self.flying c.take_before.new.self.flying
    (left_none c.args.topology.now c.args.clock c.args.link.0 c.args.dir c.frames.self c.take_before.new.self c.channel_of-at.result c.limit_on-limit.result
    c.requires.link c.frames.invariant.limit c.frames.invariant.at c.in_default.ensures.taken c.frames.invariant.order c.in_default.ensures.left)
    c.frames.invariant.order

pub returns-clause-counts : goal.returns-clause-counts
returns-clause-counts c =
    counts_then _ _ _ 0 0 0 0 0 0 c.frames.invariant.counts (counts_spare c.frames.self c.take_before.new.self _ c.in_default.ensures.left)
