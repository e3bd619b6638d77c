use Rattle.std.proofs.Common.{true}
use Rattle.mn_bgp_wire.specs.Written.{withdrawn_route}
use Rattle.mn_bgp_wire.proofs.Spelling.{written_short}
use Rattle.mn_bgp_wire.proofs.write.unreach_value.Goals as goal

pub returns-clause-short : goal.returns-clause-short
returns-clause-short c = let is = c.write_route.ensures.is_route in written_short (withdrawn_route c.args.rd c.args.prefix) true is.is_route
