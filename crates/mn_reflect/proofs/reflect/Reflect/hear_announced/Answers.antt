use Rattle.std.proofs.Common.{◌≡◌, ◌<◌, Some, length, subst, sym}
use Rattle.std.specs.Prelude.{OnOk}
use Rattle.mn_reflect.specs.Doing.{route_heard}
use Rattle.mn_reflect.proofs.Turns.{key_is}
use Rattle.mn_reflect.proofs.reflect.Reflect.hear_announced.Goals as goal

pub hear_route-requires-clause-vrf : goal.hear_route-requires-clause-vrf
hear_route-requires-clause-vrf c = subst (λ v. v < length c.args.self.now.topology.vrfs) (sym c.vrf-vrf.ensures) c.requires.passable.vrf

pub hear_route-requires-clause-name : goal.hear_route-requires-clause-name
hear_route-requires-clause-name c = (sym c.vrf-vrf.ensures, sym c.prefix-prefix.ensures)

pub returns : goal.returns
returns c =
    subst (λ k. OnOk c.hear_route.result (c.hear_route.new.self ≡ route_heard c.args.node.0 c.args.peer.0 k (Some c.args.offered) c.args.self.now))
    (key_is c.args.offered c.vrf-vrf.result c.prefix-prefix.result c.vrf-vrf.ensures c.prefix-prefix.ensures) c.hear_route.ensures
