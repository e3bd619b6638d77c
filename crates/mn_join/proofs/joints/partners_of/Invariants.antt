use Rattle.mn_join.proofs.Joined.{JoinedSoFar}
use Rattle.mn_join.proofs.joints.partners_of.Given as goal

abbrev pub invariant-loop-joint : goal.invariant-loop-joint
invariant-loop-joint l = JoinedSoFar l.which l.sites l.joint-index l.joints l.partners.items
