-- What holds of every topology.
use Rattle.std.specs.Prelude.{◌≡◌, ◌≤◌, ℕ, Bool, true, not, ◌&&◌, nat_le, nat_lt, ◌==◌, List, length}
use Rattle.std.specs.List.{list_all, IsDistinct, AllByRecursion}
use Rattle.std.specs.Str.{bytes_eq}
use Rattle.mn_wiring.specs.Limits.{most_static_routes, most_targets}
use Rattle.mn_wiring.specs.Numbers.{has_rd_form, has_rt_form}
use Rattle.mn_wiring.specs.Wiring.{JoinsNodes, EndsDiffer, JoinsOnce}
use Rattle.mn_wiring.specs.declared.links.LinkEnds.{LinkEnds}
use Rattle.mn_wiring.specs.Rt.{Rt}
use Rattle.mn_prefix.specs.Prefix.{same_prefix}
use Rattle.mn_topo.specs.declared.vrfs.VrfDef.{VrfDef}
use Rattle.mn_topo.specs.Tables.{is_name}
use Rattle.mn_topo.specs.Nodes.{NodeTable, is_loopback}
use Rattle.mn_topo.specs.Links.{joins}
use Rattle.mn_topo.specs.VrfTable.{VrfTable, edges_of}
use Rattle.mn_topo.specs.SiteTable.{SiteTable, Static, statics_of, is_lawful_prefix}
use Rattle.mn_topo.specs.Network.{Network, wiring_of}

-- names of their form, of which no two are the same
pub record AreNames (names : List (List ℕ)) : Type 0 where
  pub formed : list_all is_name names ≡ true
  pub distinct : IsDistinct bytes_eq names

-- nodes with names, and with distinct loopbacks of their form
pub record AreNodes (nodes : NodeTable) : Type 0 where
  pub named : AreNames nodes.names
  pub each : length nodes.loopbacks ≡ length nodes.names
  pub formed : list_all is_loopback nodes.loopbacks ≡ true
  pub distinct : IsDistinct (λ one other. one == other) nodes.loopbacks

-- the link joins two different nodes of so many
abbrev pub joins_two_of : ℕ → LinkEnds → Bool
joins_two_of nodes link = (nat_lt link.a.0 nodes && nat_lt link.b.0 nodes) && not (link.a.0 == link.b.0)

-- a cost of 1 to 65535, a delay of 1 to 1000, a loss of at most 65535, and a life of at most 1000000 that isn't less than the delay
abbrev pub has_figures : LinkEnds → Bool
has_figures link =
    (((nat_le 1 link.cost && nat_le link.cost 65535) && (nat_le 1 link.delay && nat_le link.delay 1000)) && (nat_le 0 link.loss && nat_le link.loss 65535))
    && ((nat_le 1 link.life && nat_le link.life 1000000) && not (nat_lt link.life link.delay))

-- links between different nodes, of which no two join the same nodes
pub record AreLinks (nodes : ℕ) (links : List LinkEnds) : Type 0 where
  pub joining : list_all (joins_two_of nodes) links ≡ true
  pub once : IsDistinct (λ one other. joins one.a.0 one.b.0 other) links
  pub figures : list_all has_figures links ≡ true

-- at most 16 targets of their form, of which no two are the same
pub record AreTargets (targets : List Rt) : Type 0 where
  pub few : length targets ≤ most_targets
  pub formed : list_all (λ target. has_rt_form target.0) targets ≡ true
  pub distinct : IsDistinct (λ one other. one.0 == other.0) targets

-- the VRF is at one of so many nodes, and its distinguisher is of its form
abbrev pub is_vrf_of : ℕ → VrfDef → Bool
is_vrf_of nodes vrf = nat_lt vrf.node.0 nodes && has_rd_form vrf.rd.0

-- VRFs with names at no more than 64 nodes, with distinct distinguishers and with sets of targets
pub record AreVrfs (nodes : ℕ) (vrfs : VrfTable) : Type 0 where
  pub named : AreNames vrfs.names
  pub each : length vrfs.vrfs ≡ length vrfs.names
  pub formed : list_all (is_vrf_of nodes) vrfs.vrfs ≡ true
  pub distinct : IsDistinct (λ one other. one.rd.0 == other.rd.0) vrfs.vrfs
  pub targets : AllByRecursion (λ vrf. AreTargets vrf.import × AreTargets vrf.export) vrfs.vrfs
  pub few_edges : length (edges_of vrfs.vrfs) ≤ 64

-- the same prefix in the same VRF
abbrev pub same_static : Static → Static → Bool
same_static one other = one.0 == other.0 && same_prefix one.1 other.1

-- sites with names in VRFs, with no more than 65,536 lawful prefixes, of which no two in a VRF are the same
pub record AreSites (vrfs : ℕ) (sites : SiteTable) : Type 0 where
  pub named : AreNames sites.names
  pub each : length sites.sites ≡ length sites.names
  pub placed : list_all (λ site. nat_lt site.vrf.0 vrfs) sites.sites ≡ true
  pub formed : list_all (λ static. is_lawful_prefix static.1) (statics_of sites.sites) ≡ true
  pub distinct : IsDistinct same_static (statics_of sites.sites)
  pub few_prefixes : length (statics_of sites.sites) ≤ most_static_routes

-- the rules that a topology meets
pub record IsLawful (network : Network) : Type 0 where
  pub asn : (nat_le 1 network.asn && nat_le network.asn 65535) ≡ true
  pub notice_delay : (nat_le 1 network.notice_delay && nat_le network.notice_delay 1000) ≡ true
  pub bgp_delay : (nat_le 1 network.bgp_delay && nat_le network.bgp_delay 1000) ≡ true
  pub few_nodes : length network.loopbacks ≤ 256
  pub few_links : length network.links ≤ 1024
  pub few_vrfs : length network.vrfs ≤ 512
  pub few_sites : length network.sites ≤ 4096
  pub nodes : AreNodes (record { names = network.node_names; loopbacks = network.loopbacks })
  pub links : AreLinks (length network.loopbacks) network.links
  pub vrfs : AreVrfs (length network.loopbacks) (record { names = network.vrf_names; vrfs = network.vrfs })
  pub sites : AreSites (length network.vrfs) (record { names = network.site_names; sites = network.sites })
  pub joins_nodes : JoinsNodes (wiring_of network)
  pub ends_differ : EndsDiffer (wiring_of network)
  pub joins_once : JoinsOnce (wiring_of network)
