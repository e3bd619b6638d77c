-- The three networks.
use Rattle.std.specs.Prelude.{ℕ, ◌+◌, ◌*◌, ◌^◌, false, List, [], ◌∷◌, codes}
use Rattle.mn_wiring.specs.declared.links.LinkEnds.{LinkEnds}
use Rattle.mn_topo.specs.Network.{Network}
use Rattle.mn_topo.specs.Nodes.{NodeTable}
use Rattle.mn_topo.specs.VrfTable.{VrfTable}
use Rattle.mn_topo.specs.SiteTable.{SiteTable, no_sites}
use Rattle.mn_test_nets.specs.Entries.{link, apart, joined, bare, of_one}

-- the topology of tables, with the numbers that a file's has by default
abbrev pub network_with : NodeTable → List LinkEnds → VrfTable → SiteTable → Network
network_with nodes links vrfs sites = record {
  asn = 65000;
  notice_delay = 1;
  bgp_delay = 1;
  node_names = nodes.names;
  loopbacks = nodes.loopbacks;
  links = links;
  vrf_names = vrfs.names;
  vrfs = vrfs.vrfs;
  site_names = sites.names;
  sites = sites.sites;
  resolve = false;
}

-- 192.0.2.n
abbrev pub loopback : ℕ → ℕ
loopback n = 192 * 2 ^ 24 + 2 * 2 ^ 8 + n

-- 10.n.0.0
abbrev pub tenth : ℕ → ℕ
tenth n = 10 * 2 ^ 24 + n * 2 ^ 16

abbrev pub row_nodes : NodeTable
row_nodes = record { names = codes "pe1" ∷ codes "p" ∷ codes "pe2" ∷ []; loopbacks = loopback 1 ∷ loopback 2 ∷ loopback 3 ∷ [] }

abbrev pub row_links : List LinkEnds
row_links = link 0 1 10 ∷ link 1 2 20 ∷ []

abbrev pub row_vrfs : VrfTable
row_vrfs = record { names = codes "red1" ∷ codes "red2" ∷ []; vrfs = joined 0 1 ∷ joined 2 2 ∷ [] }

abbrev pub row_sites : SiteTable
row_sites = record { names = codes "a" ∷ codes "b" ∷ []; sites = of_one 0 (tenth 1) ∷ of_one 1 (tenth 2) ∷ [] }

-- three nodes in a row, with a VRF and a site at either end that reach each other
abbrev pub row_net : Network
row_net = network_with row_nodes row_links row_vrfs row_sites

abbrev pub pair_nodes : NodeTable
pair_nodes = record { names = codes "pe1" ∷ codes "pe2" ∷ []; loopbacks = loopback 1 ∷ loopback 2 ∷ [] }

abbrev pub pair_links : List LinkEnds
pair_links = link 0 1 10 ∷ []

abbrev pub pair_vrfs : VrfTable
pair_vrfs = record { names = codes "red1" ∷ codes "red2" ∷ []; vrfs = apart 0 1 ∷ apart 1 2 ∷ [] }

abbrev pub pair_sites : SiteTable
pair_sites = record { names = codes "a" ∷ codes "b" ∷ []; sites = bare 0 ∷ bare 1 ∷ [] }

-- two nodes and a link, with a VRF and a site at either end that don't know of each other
abbrev pub pair_net : Network
pair_net = network_with pair_nodes pair_links pair_vrfs pair_sites

abbrev pub star_nodes : NodeTable
star_nodes = record {
  names = codes "a.bgp" ∷ codes "p.pcap" ∷ codes "b" ∷ codes "c" ∷ [];
  loopbacks = loopback 1 ∷ loopback 2 ∷ loopback 3 ∷ loopback 4 ∷ [];
}

abbrev pub star_links : List LinkEnds
star_links = link 1 0 10 ∷ link 2 1 10 ∷ link 3 1 10 ∷ []

abbrev pub star_vrfs : VrfTable
star_vrfs = record {
  names = codes "v1" ∷ codes "v2" ∷ codes "v3" ∷ codes "v4" ∷ [];
  vrfs = apart 3 1 ∷ apart 0 2 ∷ apart 2 3 ∷ apart 3 4 ∷ [];
}

-- three edges around one node, of which one has two VRFs
abbrev pub star_net : Network
star_net = network_with star_nodes star_links star_vrfs no_sites
