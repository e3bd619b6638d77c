-- A topology, as contracts see it, and what its readers answer.
use Rattle.std.specs.Prelude.{◌≡◌, ◌<◌, ℕ, Bool, ◌==◌, if◌then◌else◌, List, length, map, position, Option, option_map, slice_index_or}
use Rattle.mn_wiring.specs.Wiring.{Wiring, sender, receiver}
use Rattle.mn_wiring.specs.declared.links.LinkEnds.{LinkEnds}
use Rattle.mn_wiring.specs.declared.links.Dir.{Dir}
use Rattle.mn_wiring.specs.declared.links.Dir.TheVariants.{Forth, Back}
use Rattle.mn_wiring.specs.NodeNo.{NodeNo}
use Rattle.mn_wiring.specs.LinkNo.{LinkNo}
use Rattle.mn_wiring.specs.VrfNo.{VrfNo}
use Rattle.mn_wiring.specs.SiteNo.{SiteNo}
use Rattle.mn_topo.specs.declared.nodes.Node.{Node}
use Rattle.mn_topo.specs.declared.vrfs.VrfDef.{VrfDef}
use Rattle.mn_topo.specs.declared.sites.SiteDef.{SiteDef}
use Rattle.mn_topo.specs.Names.{number_of}
use Rattle.mn_topo.specs.Links.{joins}

-- the numbers of the top table, nodes, links, VRFs and sites in order, and whether a route is left out whose next hop has no label path
pub record Network : Type 0 where
  pub asn : ℕ
  pub notice_delay : ℕ
  pub bgp_delay : ℕ
  pub node_names : List (List ℕ)
  pub loopbacks : List ℕ
  pub links : List LinkEnds
  pub vrf_names : List (List ℕ)
  pub vrfs : List VrfDef
  pub site_names : List (List ℕ)
  pub sites : List SiteDef
  pub resolve : Bool

-- the nodes of these loopbacks, in their order
abbrev pub nodes_with : List ℕ → List Node
nodes_with loopbacks = map (λ loopback. record { loopback = loopback }) loopbacks

-- its nodes and links
abbrev pub wiring_of : Network → Wiring
wiring_of network = record { loopbacks = network.loopbacks; ends = network.links }

abbrev pub node_named : Network → List ℕ → Option NodeNo
node_named network name = option_map (λ n. record { 0 = n }) (number_of network.node_names name)

abbrev pub vrf_named : Network → List ℕ → Option VrfNo
vrf_named network name = option_map (λ n. record { 0 = n }) (number_of network.vrf_names name)

abbrev pub site_named : Network → List ℕ → Option SiteNo
site_named network name = option_map (λ n. record { 0 = n }) (number_of network.site_names name)

-- the direction of a link away from one of its ends
abbrev pub direction_from : ℕ → LinkEnds → Dir
direction_from node link = if link.a.0 == node then Forth else Back

-- the link of a number
abbrev pub link_numbered : Network → ℕ → LinkEnds
link_numbered network l = slice_index_or network.links l (record { a = record { 0 = 0 }; b = record { 0 = 0 }; cost = 0; delay = 0; loss = 0; life = 0 })

-- the link that joins the two nodes, and the direction from `m` to `n`
abbrev pub link_of : Network → ℕ → ℕ → Option (LinkNo × Dir)
link_of network m n = option_map (λ l. (record { 0 = l }, direction_from m (link_numbered network l))) (position (joins m n) network.links)

-- in this direction the link leads from `m` to `n`
pub record Leads (network : Network) (m n l : ℕ) (dir : Dir) : Type 0 where
  pub within : l < length network.links
  pub from : sender (wiring_of network) l dir ≡ m
  pub to : receiver (wiring_of network) l dir ≡ n
