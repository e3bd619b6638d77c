use Rattle.std.proofs.Common.{arith, ◌∙◌}
use Rattle.std.specs.Prelude.{slice_index_or}
use Rattle.mn_pe.specs.Switched.{attaching}
use Rattle.mn_pe.proofs.Adding.{dummy}
use Rattle.mn_pe.proofs.Places.{as_many, told_one_more}
use Rattle.mn_pe.proofs.Turned.{attaching_keeps}
use Rattle.mn_pe.proofs.Walks.{all_done}
use Rattle.mn_pe.proofs.switching.attach_at.Goals as goal

-- it was told to one VRF more
pub loop-to-preserved : goal.loop-to-preserved
loop-to-preserved c = record {
  so_far = λ d. told_one_more (attaching c.args.on c.args.site.0) (attaching_keeps c.args.on c.args.site.0)
      c.args.vrfs.now.items c.loop-to.vrfs.items c.args.at c.loop-to.to d (grind (arith, c.loop-to-test.true, c.loop-to.auto.to-end, c.len-to-end.ensures))
      (c.loop-to.invariant.so_far d) c.attach_to.new.vrfs.items (c.in_ok-attach_to.ensures d);
  as_many = as_many c.args.vrfs.now.items c.loop-to.vrfs.items c.attach_to.new.vrfs.items c.loop-to.to _
      (c.in_ok-attach_to.ensures (dummy 0)) c.loop-to.invariant.as_many;
}

-- it was told to all
pub returns : goal.returns
returns c = λ d.
    c.loop-to.invariant.so_far d
    ∙ all_done (attaching c.args.on c.args.site.0 (slice_index_or c.args.vrfs.now.items c.args.at d).vrf) c.args.vrfs.now.items c.loop-to.to
    (grind (arith, c.loop-to-test.false, c.len-to-end.ensures))
