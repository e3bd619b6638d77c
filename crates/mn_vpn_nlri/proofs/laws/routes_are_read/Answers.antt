use Rattle.std.proofs.Common.{length, arith}
use Rattle.mn_vpn_nlri.proofs.InTurn.{routes_are_read, read_are_routes}
use Rattle.mn_vpn_nlri.proofs.laws.routes_are_read.Goals as goal

pub returns-clause-only : goal.returns-clause-only
returns-clause-only c = λ bytes routes. routes_are_read routes (length bytes) bytes (omega arith)

pub returns-clause-found : goal.returns-clause-found
returns-clause-found c = λ bytes routes is e. read_are_routes (length bytes) bytes routes is (omega arith) e
