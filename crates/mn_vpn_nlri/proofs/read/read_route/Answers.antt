use Rattle.std.proofs.Common.{arith, ◌∙◌}
use Rattle.mn_vpn_nlri.proofs.Routes.{found_by, within_by, only_by, no_memory_by}
use Rattle.mn_vpn_nlri.proofs.read.read_route.Goals as goal

pub returns-clause-found : goal.returns-clause-found
returns-clause-found c = found_by c.route_at.result c.args.bytes.now (record { below = λ i. omega (arith, c.type_inv.bytes i) }) c.route_at.ensures

pub returns-clause-only : goal.returns-clause-only
returns-clause-only c = λ route size within is. c.route_at.ensures ∙ only_by c.args.bytes.now route size within is

pub returns-clause-within : goal.returns-clause-within
returns-clause-within c = within_by c.route_at.result c.args.bytes.now c.route_at.ensures

pub returns-clause-no_memory : goal.returns-clause-no_memory
returns-clause-no_memory c = no_memory_by c.route_at.result c.args.bytes.now c.route_at.ensures
