use Rattle.std.proofs.Common.{◌+◌, sym, ◌∙◌, ap, subst, slice_set, Some}
use Rattle.mn_wiring.specs.Wiring.{Wiring}
use Rattle.mn_lsr.proofs.Joining.{AreNoted, noted-not, noted-here, far-low}
use Rattle.mn_lsr.proofs.links.links_by_neighbour.Goals as goal
use Rattle.mn_lsr.proofs.links.links_by_neighbour.Goals.{then-is_end, else-is_end}

pub loop-at-preserved : goal.loop-at-preserved
loop-at-preserved c =
    let w : Wiring = record { loopbacks = c.args.loopbacks.now; ends = c.args.ends.now } in
    let me = c.args.me.0 in
    let at = c.loop-at.at in
    let below = c.loop-at-test.true in
    elim c.if-is_end.branch [
      | then-is_end b ↦ subst (AreNoted w me (at + 1))
          (sym (ap (λ v. v.items) b.links-is ∙ ap (λ far. slice_set c.loop-at.links.items far (Some (record { 0 = at }))) b.across-far.ensures))
          (noted-here w me at below c.loop-at.links.items c.loop-at.invariant (sym c.is_end.ensures ∙ b.if-is_end.true)
          (far-low w me at c.requires.joins below) c.requires.me c.requires.once)
      | else-is_end b ↦ subst (AreNoted w me (at + 1)) (sym (ap (λ v. v.items) b.links-is))
          (noted-not w me at below c.loop-at.links.items c.loop-at.invariant (sym c.is_end.ensures ∙ b.if-is_end.false))
    ]
