-- The steps of the transport alone, and those of the routes alone.
use Rattle.mn_topo.specs.declared.steps.Step.{Step}
use Rattle.mn_topo.specs.declared.steps.Step.TheVariants as step
use Rattle.mn_net.specs.declared.turns.LinkTurn.{LinkTurn}
use Rattle.mn_net.specs.declared.turns.LinkTurn.TheVariants as link
use Rattle.mn_net.specs.declared.turns.RouteTurn.{RouteTurn}
use Rattle.mn_net.specs.declared.turns.RouteTurn.TheVariants as route

abbrev pub link_step : LinkTurn → Step
link_step (link.Up l) = step.LinkUp l
link_step (link.Learn node l) = step.Learn node l
link_step (link.LdpAdmin l on) = step.LdpAdmin l on
link_step (link.HearLdp l dir) = step.HearLdp l dir

abbrev pub route_step : RouteTurn → Step
route_step (route.BgpUp a b) = step.BgpUp a b
route_step (route.BgpDown a b) = step.BgpDown a b
route_step (route.HearBgp a b) = step.HearBgp a b
route_step (route.AddRoute site prefix) = step.AddRoute site prefix
route_step (route.DelRoute site prefix) = step.DelRoute site prefix
route_step (route.Import vrf on target) = step.Import vrf on target
route_step (route.Export vrf on target) = step.Export vrf on target
