-- Which steps a topology has room for.
use Rattle.std.specs.Prelude.{Bool, not, ◌&&◌, ◌==◌, nat_lt, nat_le, length}
use Rattle.mn_wiring.specs.Numbers.{has_rt_form}
use Rattle.mn_wiring.specs.NodeNo.{NodeNo}
use Rattle.mn_wiring.specs.LinkNo.{LinkNo}
use Rattle.mn_wiring.specs.VrfNo.{VrfNo}
use Rattle.mn_wiring.specs.SiteNo.{SiteNo}
use Rattle.mn_topo.specs.declared.steps.Step.{Step}
use Rattle.mn_topo.specs.declared.steps.Step.TheVariants.{LinkUp, LinkDown, Learn, LdpAdmin, HearLdp, BgpUp, BgpDown, HearBgp, AddRoute, DelRoute, Import}
use Rattle.mn_topo.specs.declared.steps.Step.TheVariants.{Export, Attach, Detach, Inject, Carry, Lose, Tick}
use Rattle.mn_topo.specs.VrfTable.{is_edge}
use Rattle.mn_topo.specs.SiteTable.{is_lawful_prefix}
use Rattle.mn_topo.specs.Network.{Network}

abbrev pub has_node : Network → NodeNo → Bool
has_node network node = nat_lt node.0 (length network.loopbacks)

abbrev pub has_link : Network → LinkNo → Bool
has_link network link = nat_lt link.0 (length network.links)

abbrev pub has_vrf : Network → VrfNo → Bool
has_vrf network vrf = nat_lt vrf.0 (length network.vrfs)

abbrev pub has_site : Network → SiteNo → Bool
has_site network site = nat_lt site.0 (length network.sites)

-- two different edges
abbrev pub are_edges : Network → NodeNo → NodeNo → Bool
are_edges network a b = (is_edge network.vrfs a.0 && is_edge network.vrfs b.0) && not (a.0 == b.0)

-- two different edges, the lesser number first
abbrev pub are_edges_in_order : Network → NodeNo → NodeNo → Bool
are_edges_in_order network a b = (is_edge network.vrfs a.0 && is_edge network.vrfs b.0) && nat_lt a.0 b.0

-- the numbers are those of links, nodes, VRFs and sites of the topology, a prefix has no bit past its length, a record is from 1, a target
-- is of one of its two forms, a BGP step names two different edges, which BgpUp and BgpDown do in their order, and time goes by for 1 to
-- 1,000,000 ticks
abbrev pub fits : Network → Step → Bool
fits network (LinkUp link) = has_link network link
fits network (LinkDown link) = has_link network link
fits network (Learn node link) = has_node network node && has_link network link
fits network (LdpAdmin link on) = has_link network link
fits network (HearLdp link dir) = has_link network link
fits network (BgpUp a b) = are_edges_in_order network a b
fits network (BgpDown a b) = are_edges_in_order network a b
fits network (HearBgp a b) = are_edges network a b
fits network (AddRoute site prefix) = has_site network site && is_lawful_prefix prefix
fits network (DelRoute site prefix) = has_site network site && is_lawful_prefix prefix
fits network (Import vrf on target) = has_vrf network vrf && has_rt_form target.0
fits network (Export vrf on target) = has_vrf network vrf && has_rt_form target.0
fits network (Attach site) = has_site network site
fits network (Detach site) = has_site network site
fits network (Inject site number) = has_site network site && nat_le 1 number
fits network (Carry link dir place) = has_link network link
fits network (Lose link dir place) = has_link network link
fits network (Tick ticks) = nat_le 1 ticks && nat_le ticks 1000000
