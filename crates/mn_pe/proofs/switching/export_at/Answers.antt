use Rattle.std.proofs.Common.{arith, ◌∙◌}
use Rattle.std.specs.Prelude.{slice_index_or}
use Rattle.mn_pe.specs.Switched.{exporting}
use Rattle.mn_pe.proofs.Adding.{dummy}
use Rattle.mn_pe.proofs.Places.{as_many, told_one_more}
use Rattle.mn_pe.proofs.Turned.{exporting_keeps}
use Rattle.mn_pe.proofs.Walks.{all_done}
use Rattle.mn_pe.proofs.switching.export_at.Goals as goal

-- it was told to one VRF more
pub loop-to-preserved : goal.loop-to-preserved
loop-to-preserved c = record {
  so_far = λ d. told_one_more (exporting c.args.on c.args.target c.args.labels.now) (exporting_keeps c.args.on c.args.target c.args.labels.now)
      c.args.vrfs.now.items c.loop-to.vrfs.items c.args.at c.loop-to.to d (grind (arith, c.loop-to-test.true, c.loop-to.auto.to-end, c.len-to-end.ensures))
      (c.loop-to.invariant.so_far d) c.tell_if.new.vrfs.items (c.in_ok-tell_if.ensures d);
  as_many = as_many c.args.vrfs.now.items c.loop-to.vrfs.items c.tell_if.new.vrfs.items c.loop-to.to _
      (c.in_ok-tell_if.ensures (dummy 0)) c.loop-to.invariant.as_many;
}

-- it was told to all
pub returns : goal.returns
returns c = λ d.
    c.loop-to.invariant.so_far d
    ∙ all_done (exporting c.args.on c.args.target c.args.labels.now (slice_index_or c.args.vrfs.now.items c.args.at d).vrf) c.args.vrfs.now.items c.loop-to.to
    (grind (arith, c.loop-to-test.false, c.len-to-end.ensures))
