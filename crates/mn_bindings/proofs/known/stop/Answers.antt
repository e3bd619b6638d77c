use Rattle.std.proofs.Common.{◌≡◌, ◌∙◌, sym, true, false}
use Rattle.mn_bindings.specs.declared.news.SoFar.{SoFar}
use Rattle.mn_bindings.specs.Known.{all_stopped}
use Rattle.mn_bindings.specs.News.{ended_since}
use Rattle.std.specs.Prelude.{slice_index_or}
use Rattle.mn_bindings.proofs.Resting.{ended_case, one_more_stopped, case_rested}
use Rattle.mn_bindings.proofs.known.stop.Goals as goal
use Rattle.mn_bindings.proofs.known.stop.Goals.{then-ends, else-ends}

pub loop-one-preserved : goal.loop-one-preserved
loop-one-preserved c =
    let none : SoFar = record { fec = record { 0 = 0 }; offered = false } in
    let one = slice_index_or c.args.before.now c.loop-one.one-index none in
    let new : c.if-ends.rests ≡ all_stopped c.args.tick c.loop-one.rests (ended_since c.args.bound.now one) = elim c.if-ends.branch [
      | then-ends w ↦ ended_case c.args.tick c.args.bound.now one c.loop-one.rests c.if-ends.rests true (sym w.if-ends.true ∙ c.ends.ensures) (w.rests-is
          ∙ w.stop.ensures)
      | else-ends w ↦ ended_case c.args.tick c.args.bound.now one c.loop-one.rests c.if-ends.rests false (sym w.if-ends.false ∙ c.ends.ensures) w.rests-is
    ] in
    record {
      rest = one_more_stopped c.args.tick c.args.bound.now c.loop-one.rests c.if-ends.rests _ c.args.before.now c.loop-one.one-index none c.loop-one-test.true
          c.loop-one.invariant.rest new;
      rested = case_rested c.args.tick c.args.bound.now one c.loop-one.rests c.if-ends.rests new ∙ c.loop-one.invariant.rested;
    }
