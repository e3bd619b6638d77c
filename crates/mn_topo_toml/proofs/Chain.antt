-- The arrays of a document, read one after another.
use Rattle.std.proofs.Common.{◌≡◌, List, [], codes, Result, Ok, Err, refl, ap, ◌∙◌, sym}
use Rattle.toml.specs.Data.{Members}
use Rattle.toml.specs.View.{items_view}
use Rattle.mn_wiring.specs.declared.links.LinkEnds.{LinkEnds}
use Rattle.mn_topo_toml.specs.declared.refusal.TopoRule.{TopoRule}
use Rattle.mn_topo_toml.specs.declared.refusal.Place.{Place}
use Rattle.mn_topo_toml.specs.declared.refusal.Place.TheVariants.{Top}
use Rattle.mn_topo_toml.specs.declared.refusal.TopoBad.{TopoBad}
use Rattle.mn_topo_toml.specs.declared.refusal.TopoBad.TheVariants.{Refused, NoMemory}
use Rattle.mn_topo_toml.specs.Tables.{tables_at, tables_of}
use Rattle.mn_topo_toml.specs.declared.top.Head.{Head}
use Rattle.mn_topo.specs.Lawful.{IsLawful}
use Rattle.mn_topo_toml.proofs.LawfulNetwork.{network_lawful}
use Rattle.mn_topo_toml.specs.Rules.{unless_broken, Reads}
use Rattle.mn_topo.specs.Nodes.{NodeTable, no_nodes}
use Rattle.mn_topo_toml.specs.Nodes.{nodes_from}
use Rattle.mn_topo_toml.specs.Links.{links_from}
use Rattle.mn_topo.specs.VrfTable.{VrfTable, no_vrfs}
use Rattle.mn_topo_toml.specs.Vrfs.{vrfs_from}
use Rattle.mn_topo.specs.SiteTable.{SiteTable, no_sites}
use Rattle.mn_topo_toml.specs.Sites.{sites_from}
use Rattle.mn_topo.specs.Network.{Network}
use Rattle.mn_topo_toml.specs.Topology.{IsHead, network_with, ◌>>=◌, arrays_of, network_of}

abbrev after_sites : Members → NodeTable → List LinkEnds → VrfTable → SiteTable → Result Network (TopoRule × Place)
after_sites top nodes links vrfs sites = Ok (network_with top nodes links vrfs sites)

abbrev after_vrfs : Members → NodeTable → List LinkEnds → VrfTable → Result Network (TopoRule × Place)
after_vrfs top nodes links vrfs = sites_from vrfs.names (tables_at (codes "site") top) no_sites >>= after_sites top nodes links vrfs

abbrev after_links : Members → NodeTable → List LinkEnds → Result Network (TopoRule × Place)
after_links top nodes links = vrfs_from nodes.names (tables_at (codes "vrf") top) no_vrfs >>= after_vrfs top nodes links

abbrev after_nodes : Members → NodeTable → Result Network (TopoRule × Place)
after_nodes top nodes = links_from nodes.names (tables_at (codes "link") top) [] >>= after_links top nodes

-- the tables that were read, and what they gave
pub record TablesRead (top : Members) (head : Head) (nodes : NodeTable) (links : List LinkEnds) (vrfs : VrfTable) : Type 0 where
  pub head_is : IsHead top head
  pub nodes_are : nodes_from (tables_of (items_view head.arrays.nodes.now)) no_nodes ≡ Ok nodes
  pub links_are : links_from nodes.names (tables_of (items_view head.arrays.links.now)) [] ≡ Ok links
  pub vrfs_are : vrfs_from nodes.names (tables_of (items_view head.arrays.vrfs.now)) no_vrfs ≡ Ok vrfs

-- what is left once the VRFs are read
up_to_sites : (top : Members) (head : Head) (nodes : NodeTable) (links : List LinkEnds) (vrfs : VrfTable) → TablesRead top head nodes links vrfs
    → network_of top ≡ (sites_from vrfs.names (tables_of (items_view head.arrays.sites.now)) no_sites >>= after_sites top nodes links vrfs)
unfolding network_of
up_to_sites top head nodes links vrfs h =
    ap (λ rule. unless_broken rule Top (arrays_of top)) h.head_is.lawful
    ∙ ap (λ ts. nodes_from ts no_nodes >>= after_nodes top) (sym h.head_is.arrays.nodes.tables_are)
    ∙ ap (λ read. read >>= after_nodes top) h.nodes_are
    ∙ ap (λ ts. links_from nodes.names ts [] >>= after_links top nodes) (sym h.head_is.arrays.links.tables_are)
    ∙ ap (λ read. read >>= after_links top nodes) h.links_are
    ∙ ap (λ ts. vrfs_from nodes.names ts no_vrfs >>= after_vrfs top nodes links) (sym h.head_is.arrays.vrfs.tables_are)
    ∙ ap (λ read. read >>= after_vrfs top nodes links) h.vrfs_are
    ∙ ap (λ ts. sites_from vrfs.names ts no_sites >>= after_sites top nodes links vrfs) (sym h.head_is.arrays.sites.tables_are)

refused_on : {A B : Type 0} (bad : TopoBad) (read : Result A (TopoRule × Place)) (rest : A → Result B (TopoRule × Place)) → Reads {A = A} (Err bad) read →
    Reads {A = B} (Err bad) (read >>= rest)
refused_on (Refused rule place) read rest h = ap (λ r. r >>= rest) h
refused_on NoMemory read rest h = tt

-- a refusal of the sites is that of the whole
pub refused_sites : (top : Members) (head : Head) (nodes : NodeTable) (links : List LinkEnds) (vrfs : VrfTable) (bad : TopoBad) →
    TablesRead top head nodes links vrfs
    → Reads {A = SiteTable} (Err bad) (sites_from vrfs.names (tables_of (items_view head.arrays.sites.now)) no_sites) →
    Reads {A = Network} (Err bad) (network_of top)
refused_sites top head nodes links vrfs bad h s =
    rw (up_to_sites top head nodes links vrfs h)
    (refused_on bad (sites_from vrfs.names (tables_of (items_view head.arrays.sites.now)) no_sites) (after_sites top nodes links vrfs) s)

-- the network that the head and the tables make
abbrev network_by : Head → NodeTable → List LinkEnds → VrfTable → SiteTable → Network
network_by head nodes links vrfs sites = record {
  asn = head.figures.asn;
  notice_delay = head.figures.notice_delay;
  bgp_delay = head.figures.bgp_delay;
  node_names = nodes.names;
  loopbacks =
      nodes.loopbacks;
  links = links;
  vrf_names = vrfs.names;
  vrfs = vrfs.vrfs;
  site_names = sites.names;
  sites = sites.sites;
  resolve = head.figures.resolve;
}

-- the sites make the whole
pub whole : (top : Members) (head : Head) (nodes : NodeTable) (links : List LinkEnds) (vrfs : VrfTable) (sites : SiteTable) →
    TablesRead top head nodes links vrfs
    → sites_from vrfs.names (tables_of (items_view head.arrays.sites.now)) no_sites ≡ Ok sites
    → network_of top ≡ Ok (network_by head nodes links vrfs sites)
whole top head nodes links vrfs sites h s =
    up_to_sites top head nodes links vrfs h
    ∙ ap (λ read. read >>= after_sites top nodes links vrfs) s
    ∙ rw (h.head_is.figures.asn_is, h.head_is.figures.notice_delay_is, h.head_is.figures.bgp_delay_is, h.head_is.figures.resolve_is) refl

-- the whole is lawful
pub whole_lawful : (top : Members) (head : Head) (nodes : NodeTable) (links : List LinkEnds) (vrfs : VrfTable) (sites : SiteTable) →
    TablesRead top head nodes links vrfs
    → sites_from vrfs.names (tables_of (items_view head.arrays.sites.now)) no_sites ≡ Ok sites
    → IsLawful (network_by head nodes links vrfs sites)
whole_lawful top head nodes links vrfs sites h s = network_lawful top _ (whole top head nodes links vrfs sites h s)
