use Rattle.std.proofs.Common.{sym, ◌∙◌, ap, subst, ◌+◌, Vec, Global}
use Rattle.mn_base.specs.declared.numbers.LinkNo.{LinkNo}
use Rattle.mn_way.proofs.Lists.{AreBelow, put, skip, there_is}
use Rattle.mn_way.proofs.links.links_at.Goals as goal
use Rattle.mn_way.proofs.links.links_at.Goals.{then-is_end+in_ok-push, else-is_end}

pub loop-number-preserved : goal.loop-number-preserved
loop-number-preserved c =
    let ends = c.args.ends.now in
    let nodes = c.args.nodes in
    let node = c.args.node.0 in
    let k = c.loop-number.number in
    let links = c.loop-number.links.items in
    elim c.if-is_end.branch [
      | then-is_end+in_ok-push w ↦
          subst (AreBelow ends nodes node (k + 1)) (sym (ap (λ (v : Vec LinkNo Global). v.items) w.links-is ∙ w.in_ok-push.ensures.items))
          (put ends nodes node k links (sym c.is_end.ensures ∙ w.if-is_end.true)
          (there_is ends nodes node k c.requires c.loop-number-test.true (sym c.is_end.ensures ∙ w.if-is_end.true))
          c.loop-number.invariant)
      | else-is_end w ↦
          subst (AreBelow ends nodes node (k + 1)) (sym (ap (λ (v : Vec LinkNo Global). v.items) w.links-is))
          (skip ends nodes node k links (sym c.is_end.ensures ∙ w.if-is_end.false) c.loop-number.invariant)
    ]
