-- What a value of `Ways` has of a topology and a configuration.
use Rattle.std.specs.Prelude.{◌≡◌, ◌<◌, ℕ, Bool, false, List, length, map, slice_index_or, Option}
use Rattle.mn_wiring.specs.Wiring.{links_of}
use Rattle.mn_wiring.specs.Paths.{dist_in, dists_to}
use Rattle.mn_topo.specs.Network.{Network, wiring_of}
use Rattle.mn_ledger.specs.World.{Config}
use Rattle.mn_reach_laws.specs.Fates.{up_links}
use Rattle.mn_way.specs.Switched.{Switched, IsOver}
use Rattle.mn_way.specs.Way.{Hop, way}

-- the links on which LDP is on
abbrev pub ldp_links : Network → Config → List Bool
ldp_links topology config = map config.ldp_on (links_of (wiring_of topology))

-- the nodes and links are the topology's, and what is up and has LDP is so in the configuration
pub record IsOf (topology : Network) (config : Config) (switched : Switched) : Type 0 where
  pub over : IsOver (wiring_of topology) switched
  pub up : switched.up ≡ up_links topology config
  pub ldp : switched.ldp ≡ ldp_links topology config

-- link by link, each is up and has LDP where it is so in the configuration
pub record AreSwitched (topology : Network) (config : Config) (switched : Switched) : Type 0 where
  pub ups : length switched.up ≡ length topology.links
  pub ldps : length switched.ldp ≡ length topology.links
  pub up : (l : ℕ) → l < length topology.links → slice_index_or switched.up l false ≡ config.is_up l
  pub ldp : (l : ℕ) → l < length topology.links → slice_index_or switched.ldp l false ≡ config.ldp_on l

-- the way from a node to another one, and its least cost
abbrev pub way_of : Network → Config → ℕ → ℕ → Option (List Hop)
way_of topology config node to = way (wiring_of topology) (up_links topology config) node to

abbrev pub cost_of : Network → Config → ℕ → ℕ → Option ℕ
cost_of topology config node to = dist_in (dists_to (wiring_of topology) (up_links topology config) to) node
