use Rattle.std.proofs.Common.{arith}
use Rattle.mn_bgp_reflected.proofs.Messages.{found_by, only_by}
use Rattle.mn_bgp_reflected.proofs.read.read_reflected.Goals as goal

pub returns-clause-found : goal.returns-clause-found
returns-clause-found c = found_by c.reflected_of.result c.args.bytes.now (record { below = λ i. omega (arith, c.type_inv.bytes i) })
    c.reflected_of.ensures.reading

pub returns-clause-only : goal.returns-clause-only
returns-clause-only c = only_by c.reflected_of.result c.args.bytes.now c.reflected_of.ensures.reading
