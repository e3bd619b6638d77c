use Rattle.std.proofs.Common.{◌+◌, ◌<◌, length, ap, ◌∙◌, sym, subst, arith, not}
use Rattle.std.proofs.lemmas.List.Elements.{All-get_or}
use Rattle.mn_join.specs.Ends.{here_of}
use Rattle.mn_join.proofs.Joined.{JoinedSoFar, no_joint, joint_kept, joint_set}
use Rattle.mn_join.proofs.joints.partners_of.Goals.{then-is_none, else-is_none}
use Rattle.mn_join.proofs.joints.partners_of.Goals as goal

pub loop-joint-preserved : goal.loop-joint-preserved
loop-joint-preserved c =
    let which = c.args.which in
    let i = c.loop-joint.joint-index in
    let joints = c.args.joints.now in
    let old = c.loop-joint.partners.items in
    let before = c.loop-joint.invariant in
    let at = c.from-at.ensures ∙ ap (λ ends. ends.0.0) c.ends.ensures in
    let within : c.from-at.result < length old = omega (
      arith,
      All-get_or (λ joint. (here_of which joint).0 < c.args.sites) joints i no_joint c.loop-joint-test.true c.requires,
      at,
      before.many,
    ) in
    elim c.if-is_none.branch [
      | then-is_none w ↦ subst (λ v. JoinedSoFar which c.args.sites (i + 1) joints v.items) (sym w.partners-is)
          (joint_set which c.args.sites i joints old before c.loop-joint-test.true c.from-at.result c.index.result.now c.ends.result.1 at within c.index.ensures
          (c.is_none.ensures ∙ ap not w.if-is_none.true) (ap (λ ends. ends.1) c.ends.ensures))
      | else-is_none w ↦ subst (λ v. JoinedSoFar which c.args.sites (i + 1) joints v.items) (sym w.partners-is)
          (joint_kept which c.args.sites i joints old before c.loop-joint-test.true c.from-at.result c.index.result.now at within c.index.ensures
          (c.is_none.ensures ∙ ap not w.if-is_none.false))
    ]
