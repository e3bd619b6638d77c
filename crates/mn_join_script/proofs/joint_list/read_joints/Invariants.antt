use Rattle.std.proofs.Common.{◌≡◌, length}
use Rattle.std.specs.Str.Lines.{lines}
use Rattle.mn_join_script.specs.Joints.{joints_from, joints_of, AreSites, AreApart}
use Rattle.mn_join_script.proofs.joint_list.read_joints.Given as goal

abbrev pub invariant-lines : goal.invariant-lines
invariant-lines l = record {
  same : joints_from l.first l.second l.joints.items l.number (lines l.rest) ≡ joints_of l.first l.second l.bytes;
  sites : AreSites l.first l.second l.joints.items;
  apart : AreApart l.joints.items;
}

abbrev pub decreases-lines : goal.decreases-lines
decreases-lines l = length l.rest
