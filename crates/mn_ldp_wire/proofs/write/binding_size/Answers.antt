use Rattle.mn_ldp_wire.proofs.Written.{length-binding}
use Rattle.std.proofs.Common.{arith}
use Rattle.mn_ldp_wire.proofs.write.binding_size.Goals as goal

pub returns : goal.returns
returns c = λ label. omega (arith, length-binding c.args.prefix label (omega arith), c.octets.ensures, c.length.ensures.value)
