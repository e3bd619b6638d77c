use Rattle.std.proofs.Common.{◌∙◌, ap, refl, arith}
use Rattle.std.specs.Prelude.{◌||◌}
use Rattle.std.specs.List.{list_any}
use Rattle.std.proofs.lemmas.List.{take_all}
use Rattle.mn_failures.specs.Meaning.{is_bgp_off}
use Rattle.mn_reach.specs.Reaching.{Reaching, is_between}
use Rattle.mn_reach_run.proofs.Switching.{ended_next, or_none}
use Rattle.mn_reach_run.proofs.failing.end_sessions.Goals as goal

pub loop-part-init : goal.loop-part-init
loop-part-init c = record { ended = λ one other. or_none (list_any (is_between one other) c.args.reach.now.ended); same = refl }

pub loop-part-preserved : goal.loop-part-preserved
loop-part-preserved c = record {
  ended = λ one other.
      ended_next c.args.parts.now c.loop-part.part-index _ c.args.reach.now.ended c.loop-part.reach.ended c.end_session_of.new.reach.ended one other
      c.loop-part-test.true (c.in_ok-end_session_of.ensures.ended one other) (c.loop-part.invariant.ended one other);
  same = c.in_ok-end_session_of.ensures.same ∙ ap (λ (r : Reaching). record r { ended = c.end_session_of.new.reach.ended }) c.loop-part.invariant.same;
}

pub returns-clause-ended : goal.returns-clause-ended
returns-clause-ended c = λ one other.
    c.loop-part.invariant.ended one other
    ∙ ap (λ ps. list_any (is_between one other) c.args.reach.now.ended || is_bgp_off ps one other)
    (take_all c.loop-part.part-index c.args.parts.now (omega arith))
