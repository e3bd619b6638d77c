use Rattle.std.proofs.Common.{false}
use Rattle.mn_bindings.specs.declared.news.SoFar.{SoFar}
use Rattle.mn_bindings.specs.News.{told_since}
use Rattle.mn_bindings.proofs.Staying.{rest_more}
use Rattle.mn_bindings.proofs.bindings.Bound.changes.Goals as goal
use Rattle.mn_bindings.proofs.bindings.Bound.changes.Goals.{then-one-offers+in_ok-tell_stayed, else-one-offers+in_ok-tell}

pub loop-one-preserved : goal.loop-one-preserved
loop-one-preserved c =
    let none : SoFar = record { fec = record { 0 = 0 }; offered = false } in
    rest_more (told_since c.args.self.now c.args.events.now) c.args.before.now c.loop-one.one-index none c.loop-one.tells.items _ _ c.loop-one-test.true
    (elim c.if-one-offers.branch [
      | then-one-offers+in_ok-tell_stayed w ↦ rw w.tells-is w.in_ok-tell_stayed.ensures
      | else-one-offers+in_ok-tell w ↦ rw w.tells-is w.in_ok-tell.ensures
    ])
    c.loop-one.invariant
