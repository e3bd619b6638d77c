use Rattle.mn_ldp_wire.proofs.Causes.{refused_where}
use Rattle.mn_ldp_wire.proofs.laws.each_refusal_has_its_cause.Goals as goal

pub returns : goal.returns
returns c = refused_where
