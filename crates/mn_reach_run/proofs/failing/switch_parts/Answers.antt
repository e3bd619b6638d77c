use Rattle.std.proofs.Common.{◌∙◌, ap, refl, subst, arith}
use Rattle.std.proofs.lemmas.List.{take_all}
use Rattle.mn_failures.specs.Meaning.{is_down, is_ldp_off}
use Rattle.mn_reach.specs.Reaching.{Reaching}
use Rattle.mn_reach_run.specs.Playing.{AreSet}
use Rattle.mn_reach_run.proofs.Switching.{set_none, up_next, ldp_next}
use Rattle.mn_reach_run.proofs.failing.switch_parts.Goals as goal

pub loop-part-init : goal.loop-part-init
loop-part-init c = record {
  up = set_none c.args.on c.args.reach.now.up;
  ldp = set_none c.args.on c.args.reach.now.ldp;
  same = refl;
}

pub loop-part-preserved : goal.loop-part-preserved
loop-part-preserved c = record {
  up = up_next c.args.topology.now c.args.parts.now c.loop-part.part-index _ c.args.on _ _ _ c.loop-part-test.true c.loop-part.invariant.up
      c.in_ok-switch_part.ensures.up;
  ldp = ldp_next c.args.parts.now c.loop-part.part-index _ c.args.on _ _ _ c.loop-part-test.true c.loop-part.invariant.ldp c.in_ok-switch_part.ensures.ldp;
  same = c.in_ok-switch_part.ensures.same
      ∙ ap (λ (r : Reaching). record r { up = c.switch_part.new.reach.up; ldp = c.switch_part.new.reach.ldp }) c.loop-part.invariant.same;
}

pub returns-clause-up : goal.returns-clause-up
returns-clause-up c =
    subst (λ parts. AreSet (is_down c.args.topology.now parts) c.args.on c.args.reach.now.up c.loop-part.reach.up)
    (take_all c.loop-part.part-index c.args.parts.now (omega arith)) c.loop-part.invariant.up

pub returns-clause-ldp : goal.returns-clause-ldp
returns-clause-ldp c =
    subst (λ parts. AreSet (is_ldp_off parts) c.args.on c.args.reach.now.ldp c.loop-part.reach.ldp)
    (take_all c.loop-part.part-index c.args.parts.now (omega arith)) c.loop-part.invariant.ldp
