use Rattle.std.proofs.Common.{false}
use Rattle.mn_bgp_wire.proofs.Spelling.{written_short}
use Rattle.mn_bgp_wire.proofs.write.reach_value.Goals as goal

pub returns-clause-short : goal.returns-clause-short
returns-clause-short c = let is = c.write_route.ensures.is_route in written_short c.args.route.now false is.is_route
