-- Routes that can be passed on.
use Rattle.std.specs.Prelude.{◌<◌, ◌≤◌, ◌^◌, length, Option, Some, None}
use Rattle.mn_base.specs.Ordered.{IsAscending}
use Rattle.mn_vpn_nlri.specs.Grammar.{AllTargets}
use Rattle.mn_topo.specs.Network.{Network}
use Rattle.mn_offers.specs.Heard.{Heard}

-- RFC 4364, section 4.3.1; RFC 8277, section 2.2
pub record IsPassable (topology : Network) (route : Heard) : Type 0 where
  pub vrf : route.vrf < length topology.vrfs
  pub label : route.label < 2 ^ 20
  pub ascending : IsAscending route.targets
  pub targets : AllTargets route.targets
  pub few : length route.targets ≤ 16
  pub near : length route.clusters ≤ 7

abbrev pub IfPassable : Network → Option Heard → Type 0
IfPassable topology None = Unit {0}
IfPassable topology (Some route) = IsPassable topology route
