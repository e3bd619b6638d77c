-- What a topology says of its nodes, VRFs and sites, by number.
use Rattle.std.specs.Prelude.{ℕ, ◌==◌, List, length, filter}
use Rattle.std.specs.List.{range_with_len}
use Rattle.mn_topo.specs.VrfTable.{is_edge}
use Rattle.mn_topo.specs.Network.{Network, wiring_of}
use Rattle.mn_node.specs.Machine.{loopback_of}
pub use Rattle.mn_topo.specs.Homes.{vrf_at, site_at, vrf_of, edge_of, home_of}

-- the node's address
abbrev pub loopback : Network → ℕ → ℕ
loopback topology node = loopback_of (wiring_of topology) node

-- the VRFs of an edge, in order
abbrev pub vrfs_at : Network → ℕ → List ℕ
vrfs_at topology edge = filter (λ v. edge_of topology v == edge) (range_with_len 0 (length topology.vrfs))

-- the sites of a node, in order
abbrev pub sites_at : Network → ℕ → List ℕ
sites_at topology node = filter (λ s. home_of topology s == node) (range_with_len 0 (length topology.sites))

-- the edges, in order
abbrev pub edges : Network → List ℕ
edges topology = filter (λ node. is_edge topology.vrfs node) (range_with_len 0 (length topology.loopbacks))
