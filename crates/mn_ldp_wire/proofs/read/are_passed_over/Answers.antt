use Rattle.mn_ldp_wire.proofs.Loops.{front_shorter}
use Rattle.mn_ldp_wire.proofs.read.are_passed_over.Goals as goal

pub further-smaller : goal.further-smaller
further-smaller c = front_shorter _ _ c.in-Some.ensures
