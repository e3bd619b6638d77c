-- More runs over the network of two links, each of which a wrong definition would end otherwise.
use Rattle.std.specs.Prelude.{◌≡◌, refl, ℕ, zero, suc, List, [], ◌∷◌, ◌++◌, map, length, Some, None, true, false}
use Rattle.std.specs.List.{range_with_len}
use Rattle.mn_base.specs.declared.numbers.Rt.{Rt}
use Rattle.mn_topo.specs.Dir.TheVariants.{Forth, Back}
use Rattle.mn_drops.specs.declared.drops.Rule.TheVariants as rule
use Rattle.mn_topo.specs.Prefix.{AddressBlock}
use Rattle.mn_topo.specs.Network.{Network, wiring_of}
use Rattle.mn_topo.specs.declared.steps.Step.{Step}
use Rattle.mn_topo.specs.declared.steps.Step.TheVariants.{LinkUp, LinkDown, Learn, LdpAdmin, HearLdp, BgpUp, BgpDown, HearBgp, AddRoute, DelRoute, Import}
use Rattle.mn_topo.specs.declared.steps.Step.TheVariants.{Export, Attach, Detach, Inject, Carry, Lose}
use Rattle.mn_topo.specs.declared.steps.JournalEntry.{JournalEntry}
use Rattle.mn_ledger.specs.declared.verdict.Verdict.{Verdict}
use Rattle.mn_ledger.specs.declared.verdict.Verdict.TheVariants.{Delivered, Dropped, Flying}
use Rattle.mn_ledger.specs.declared.refused.Refused.TheVariants.{Unchanged, Empty, PrefixTaken, NoRouteThere, RoutesFull, TargetsFull, LabelsSpent, NetFull}
use Rattle.mn_ledger.specs.declared.refused.Refused.TheVariants.{TooManySteps}
use Rattle.mn_ledger.specs.Tables.{everywhere}
use Rattle.mn_ledger.specs.World as world
use Rattle.mn_ledger.specs.World.{World, Config, Initialization, KeepAlive, Address, Mapping, Withdraw, Release, Open, BgpKeepAlive, Announcement, Withdrawal}
use Rattle.mn_ledger.specs.Transport.{speakers, by_neighbour, is_mapped}
use Rattle.mn_ledger.specs.Exports.{exports_of}
use Rattle.mn_ledger.specs.Bgp.{announced, told_in}
use Rattle.mn_ledger.specs.Held.{held, Source, Own, Near, Far, HeldRoute, best}
use Rattle.mn_ledger.specs.Packets.{Packets}
use Rattle.mn_ledger.specs.Ledger.{start, no_packets, first_config, world_of, packets_of}
use Rattle.mn_ledger.specs.Refusal.{refusal, refusal_at, prefix_refusal, is_targets_full, is_spent, is_full, labels_given, in_flight}
use Rattle.mn_ledger.proofs.TwoLinks.{node_no, link_no, site_no, vrf_no, target, two_links, at_start, settling, packet, packet_of_ttl_4, packet_of_ttl_3}
use Rattle.mn_ledger.proofs.TwoLinks.{across_both, a_link, a_vrf, all_learn, heard_on, to_far, to_near}
use Rattle.mn_ledger.proofs.Running.{a_run}

-- the network is settled, and then these steps are done
abbrev settled_then : List Step → List JournalEntry
settled_then steps = settling ++ map at_start steps

-- what becomes of packets that follow
abbrev ends : List Step → List (List ℕ) → List Verdict
ends steps packets = (packets_of two_links (settled_then steps) packets).verdicts

abbrev block : ℕ → ℕ → AddressBlock
block address length = record { address = address; length = length }

-- 10.1.0.0/16 and 10.2.0.0/16
abbrev near_block : AddressBlock
near_block = block 167837696 16

abbrev far_block : AddressBlock
far_block = block 167903232 16

-- 65000:99, which comes before 65000:100
abbrev lesser_target : Rt
lesser_target = record { 0 = 842122827661411 }

-- from 10.2.0.1 to 10.1.0.1
abbrev packet_back : List ℕ
packet_back = 69 ∷ 0 ∷ 0 ∷ 28 ∷ 0 ∷ 0 ∷ 0 ∷ 0 ∷ 64 ∷ 17 ∷ 102 ∷ 205 ∷ 10 ∷ 2 ∷ 0 ∷ 1 ∷ 10 ∷ 1 ∷ 0 ∷ 1 ∷ 0 ∷ 53 ∷ 0 ∷ 53 ∷ 0 ∷ 8 ∷ 0 ∷ 0 ∷ []

-- with TTL 2; and with TTL 1 to 224.0.0.5
abbrev packet_of_ttl_2 : List ℕ
packet_of_ttl_2 = 69 ∷ 0 ∷ 0 ∷ 28 ∷ 0 ∷ 0 ∷ 0 ∷ 0 ∷ 2 ∷ 17 ∷ 164 ∷ 205 ∷ 10 ∷ 1 ∷ 0 ∷ 1 ∷ 10 ∷ 2 ∷ 0 ∷ 1 ∷ 0 ∷ 53 ∷ 0 ∷ 53 ∷ 0 ∷ 8 ∷ 0 ∷ 0 ∷ []

abbrev packet_to_a_group : List ℕ
packet_to_a_group = 69 ∷ 0 ∷ 0 ∷ 28 ∷ 0 ∷ 0 ∷ 0 ∷ 0 ∷ 1 ∷ 17 ∷ 207 ∷ 202 ∷ 10 ∷ 1 ∷ 0 ∷ 1 ∷ 224 ∷ 0 ∷ 0 ∷ 5 ∷ 0 ∷ 53 ∷ 0 ∷ 53 ∷ 0 ∷ 8 ∷ 0 ∷ 0 ∷ []

-- as two_links, with a third VRF at pe1 that imports the target, its site c, and a second site d of pe1's first VRF
abbrev wider : Network
wider = record two_links {
  vrf_names = (114 ∷ 49 ∷ []) ∷ (114 ∷ 50 ∷ []) ∷ (114 ∷ 51 ∷ []) ∷ [];
  vrfs = a_vrf 0 279172874240001 ∷ a_vrf 2 279172874240002 ∷ record (a_vrf 0 279172874240003) { export = [] } ∷ [];
  site_names = (97 ∷ []) ∷ (98 ∷ []) ∷ (99 ∷ []) ∷ (100 ∷ []) ∷ [];
  sites = record { vrf = vrf_no 0; prefixes = near_block ∷ [] } ∷ record { vrf = vrf_no 1; prefixes = far_block ∷ [] } ∷ record {
    vrf = vrf_no 2;
    prefixes =
        block 167968768 16 ∷ [];
  } ∷ record { vrf = vrf_no 0; prefixes = block 168034304 16 ∷ [] } ∷ [];
  resolve = false;
}

-- 1. LDP, and where a node can send

-- the middle can send no more where LDP is switched off behind it, and the near edge no more once it has received the Withdraw
pub a_withdrawn_label_ends_the_path : ends (LdpAdmin (link_no 1) false ∷ Inject (site_no 0) 1 ∷ HearLdp (link_no 0) Back ∷ Inject (site_no 0) 1
    ∷ Carry (link_no 0) Forth 0 ∷ []) (packet ∷ packet ∷ []) ≡ Dropped rule.NoEntry (node_no 1) ∷ Dropped rule.NoLsp (node_no 0) ∷ []
unfolding a_run
a_withdrawn_label_ends_the_path = refl

-- a link that went down is gone for a node once the node has learned it
pub the_near_edge_sends_by_its_view : ends (LinkDown (link_no 1) ∷ Inject (site_no 0) 1 ∷ Carry (link_no 0) Forth 0 ∷ Learn (node_no 0) (link_no 1)
    ∷ Inject (site_no 0) 1 ∷ []) (packet ∷ packet ∷ []) ≡ Dropped rule.NoEntry (node_no 1) ∷ Dropped rule.NoLsp (node_no 0) ∷ []
unfolding a_run
the_near_edge_sends_by_its_view = refl

-- a node offers what its next hop offered it, and itself at once; each FEC is mentioned as it comes to be offered
pub the_middle_says : (world_of two_links settling).sessions.said 0 1 ≡ Initialization ∷ KeepAlive ∷ Address ∷ Mapping 1 ∷ Mapping 2 ∷ Mapping 0 ∷ []
unfolding a_run
the_middle_says = refl

-- a Withdraw is answered by a Release first
pub a_release_comes_before_the_withdraw : (world_of two_links (settled_then (LdpAdmin (link_no 1) false ∷ HearLdp (link_no 0) Back ∷ []))).sessions.said 0 0
    ≡ Initialization ∷ KeepAlive ∷ Address ∷ Mapping 0 ∷ Mapping 1 ∷ Mapping 2 ∷ Release 2 ∷ Withdraw 2 ∷ []
unfolding a_run
a_release_comes_before_the_withdraw = refl

-- LDP is switched off and on again: the new session says everything anew
pub a_session_opens_anew : ends (LdpAdmin (link_no 0) false ∷ LdpAdmin (link_no 0) true ∷ Inject (site_no 0) 1 ∷ HearLdp (link_no 0) Back
    ∷ HearLdp (link_no 0) Forth ∷ HearLdp (link_no 0) Forth ∷ HearLdp (link_no 0) Back ∷ HearLdp (link_no 0) Back ∷ HearLdp (link_no 0) Back
    ∷ HearLdp (link_no 0) Back ∷ Inject (site_no 0) 1 ∷ Carry (link_no 0) Forth 0 ∷ Carry (link_no 1) Forth 0 ∷ [])
    (packet ∷ packet ∷ []) ≡ Dropped rule.NoLsp (node_no 0) ∷ Delivered 61 (site_no 1) 1 ∷ []
unfolding a_run
a_session_opens_anew = refl

-- before the Mapping of the far edge is received anew there is no path
pub each_mapping_is_awaited : ends (LdpAdmin (link_no 0) false ∷ LdpAdmin (link_no 0) true ∷ HearLdp (link_no 0) Back ∷ HearLdp (link_no 0) Forth
    ∷ HearLdp (link_no 0) Forth ∷ HearLdp (link_no 0) Back ∷ HearLdp (link_no 0) Back ∷ HearLdp (link_no 0) Back ∷ Inject (site_no 0) 1 ∷ [])
    (packet ∷ []) ≡ Dropped rule.NoLsp (node_no 0) ∷ []
unfolding a_run
each_mapping_is_awaited = refl

-- of the mentions of a FEC the last decides, and those of others nothing
pub the_last_mention_decides : map (is_mapped false 1) ((Mapping 1 ∷ Mapping 1 ∷ []) ∷ (Mapping 1 ∷ Withdraw 1 ∷ Withdraw 1 ∷ [])
    ∷ (Withdraw 1 ∷ Mapping 1 ∷ Withdraw 2 ∷ Release 1 ∷ []) ∷ (Mapping 2 ∷ []) ∷ []) ≡ true ∷ false ∷ true ∷ false ∷ []
the_last_mention_decides = refl

-- where a session begins or ends, the end `a` speaks first and then the end `b`
pub ends_speak_first : speakers (wiring_of two_links) (LinkDown (link_no 1)) ≡ 1 ∷ 2 ∷ 0 ∷ []
unfolding a_run
ends_speak_first = refl

-- neighbours go by their own numbers, whichever order the links have
pub neighbours_go_by_number : by_neighbour (wiring_of (record two_links { links = a_link 1 2 10 ∷ a_link 0 1 10 ∷ [] })) 1 ≡ 1 ∷ 0 ∷ []
unfolding a_run
neighbours_go_by_number = refl

-- 2. BGP and the routes of VRFs

-- the import set as it was when the route was received decides nothing
pub an_earlier_import_set_decides_nothing : (packets_of two_links (at_start (Import (vrf_no 0) false target)
    ∷ settled_then (Import (vrf_no 0) true target ∷ Inject (site_no 0) 1 ∷ [])) (packet ∷ [])).verdicts ≡ Flying (link_no 0) Forth ∷ []
unfolding a_run
an_earlier_import_set_decides_nothing = refl

-- the far site is detached: its route is held until the withdrawal is received
pub a_route_goes_once_its_withdrawal_is_heard : ends (Detach (site_no 1) ∷ Inject (site_no 0) 1 ∷ HearBgp (node_no 2) (node_no 0) ∷ Inject (site_no 0) 1
    ∷ []) (packet ∷ packet ∷ []) ≡ Flying (link_no 0) Forth ∷ Dropped rule.NoRoute (node_no 0) ∷ []
unfolding a_run
a_route_goes_once_its_withdrawal_is_heard = refl

-- a session that ended leaves no route, nor does one that begins anew
pub a_session_that_ends_takes_its_routes : ends (BgpDown (node_no 0) (node_no 2) ∷ Inject (site_no 0) 1 ∷ BgpUp (node_no 0) (node_no 2)
    ∷ Inject (site_no 0) 1 ∷ []) (packet ∷ packet ∷ []) ≡ Dropped rule.NoRoute (node_no 0) ∷ Dropped rule.NoRoute (node_no 0) ∷ []
unfolding a_run
a_session_that_ends_takes_its_routes = refl

-- an announcement with other targets takes the place of the one before
pub a_new_announcement_takes_the_place : ends (Export (vrf_no 1) true lesser_target ∷ Export (vrf_no 1) false target ∷ HearBgp (node_no 2) (node_no 0)
    ∷ Inject (site_no 0) 1 ∷ HearBgp (node_no 2) (node_no 0) ∷ Inject (site_no 0) 1 ∷ []) (packet ∷ packet ∷ []) ≡ Flying (link_no 0) Forth
    ∷ Dropped rule.NoRoute (node_no 0) ∷ []
unfolding a_run
a_new_announcement_takes_the_place = refl

-- changed targets are announced, in ascending order, and a route without targets is withdrawn
pub changed_targets_are_announced : (world_of two_links
    (settled_then (Export (vrf_no 1) true lesser_target ∷ Export (vrf_no 1) false target ∷ Export (vrf_no 1) false lesser_target ∷ []))).peerings.told 2 0 ≡
    Open ∷ BgpKeepAlive ∷ Announcement (record { vrf = 1; prefix = far_block; site = 1; attachment = 1; targets = target.0 ∷ [] })
    ∷ Announcement (record { vrf = 1; prefix = far_block; site = 1; attachment = 1; targets = lesser_target.0 ∷ target.0 ∷ [] })
    ∷ Announcement (record { vrf = 1; prefix = far_block; site = 1; attachment = 1; targets = lesser_target.0 ∷ [] }) ∷ Withdrawal 1 far_block ∷ []
unfolding a_run
changed_targets_are_announced = refl

-- exports go by address, and of one address by length
pub exports_go_by_address : map (λ export. export.prefix)
    (exports_of two_links
    (world_of two_links (map at_start (AddRoute (site_no 1) (block 167903232 24) ∷ AddRoute (site_no 1) (block 167837696 24) ∷ []))).config 2) ≡ block
    167837696 24 ∷ far_block ∷ block 167903232 24 ∷ []
unfolding a_run
exports_go_by_address = refl

-- the lesser edge sends OPEN first
pub the_lesser_edge_opens_first : map (λ told. told.teller)
    (told_in two_links (first_config two_links) (start two_links).peerings (world_of two_links (at_start (BgpUp (node_no 0) (node_no 2)) ∷ [])).config
    (start two_links).peerings (BgpUp (node_no 0) (node_no 2))) ≡ 0 ∷ 2 ∷ []
unfolding a_run
the_lesser_edge_opens_first = refl

-- a default route of the own VRF is shorter than the far route; of equal prefixes the own static is preferred
pub the_longest_prefix_is_best : ends (AddRoute (site_no 0) (block 0 0) ∷ Inject (site_no 0) 1 ∷ AddRoute (site_no 0) far_block ∷ Inject (site_no 0) 1 ∷ [])
    (packet ∷ packet ∷ []) ≡ Flying (link_no 0) Forth ∷ Delivered 63 (site_no 0) 1 ∷ []
unfolding a_run
the_longest_prefix_is_best = refl

-- a VRF holds its own statics whatever its targets
pub own_statics_need_no_target : ends (Import (vrf_no 0) false target ∷ Export (vrf_no 0) false target ∷ AddRoute (site_no 0) far_block
    ∷ Inject (site_no 0) 1 ∷ []) (packet_of_ttl_2 ∷ []) ≡ Delivered 1 (site_no 0) 1 ∷ []
unfolding a_run
own_statics_need_no_target = refl

-- another VRF of the edge imports by target, and only what is attached
pub another_vrf_of_the_edge : (packets_of wider
    (map at_start (Inject (site_no 2) 1 ∷ Import (vrf_no 2) false target ∷ Inject (site_no 2) 1 ∷ Import (vrf_no 2) true target ∷ Detach (site_no 0)
    ∷ Inject (site_no 2) 1 ∷ [])) (packet_back ∷ packet_back ∷ packet_back ∷ [])).verdicts ≡ Delivered 63 (site_no 0) 1 ∷ Dropped rule.NoRoute (node_no 0)
    ∷ Dropped rule.NoRoute (node_no 0) ∷ []
unfolding a_run
another_vrf_of_the_edge = refl

-- a route of one prefix from this source
abbrev from : Source → HeldRoute
from source = record { prefix = near_block; source = source; edge = 0; site = 0; attachment = 1 }

-- of one prefix: another VRF of the edge by number, then another edge by address and then by distinguisher
pub sources_in_order : best (from (Far 2 1) ∷ from (Near 2) ∷ from (Near 1) ∷ []) 167837697 ≡ Some (from (Near 1))
unfolding a_run
sources_in_order = refl

-- the lesser address comes before the lesser distinguisher
pub far_sources_in_order : best (from (Far 2 1) ∷ from (Far 1 3) ∷ from (Far 1 2) ∷ []) 167837697 ≡ Some (from (Far 1 2))
unfolding a_run
far_sources_in_order = refl

-- an own static comes before another VRF's route of the same prefix, and that before another edge's
pub own_comes_first : best (from (Far 1 1) ∷ from (Near 1) ∷ from Own ∷ []) 167837697 ≡ Some (from Own)
unfolding a_run
own_comes_first = refl

pub near_comes_before_far : best (from (Far 1 1) ∷ from (Near 2) ∷ []) 167837697 ≡ Some (from (Near 2))
unfolding a_run
near_comes_before_far = refl

-- a VRF holds its own statics once, though it imports what it exports; another VRF of the edge holds them beside its own
pub statics_are_held_once : map (λ route. route.site) (held wider (first_config wider) (start wider).peerings 0 0) ≡ 0 ∷ 3 ∷ []
unfolding a_run
statics_are_held_once = refl

pub another_vrf_holds_them_too : map (λ route. route.site) (held wider (first_config wider) (start wider).peerings 0 2) ≡ 2 ∷ 0 ∷ 3 ∷ []
unfolding a_run
another_vrf_holds_them_too = refl

-- a route of the far edge over this attachment
abbrev over : ℕ → world.Export
over attachment = record { vrf = 1; prefix = far_block; site = 1; attachment = attachment; targets = target.0 ∷ [] }

-- over another attachment it is another route, and announced anew; the same one isn't
pub another_attachment_is_announced : announced (over 1 ∷ []) (over 2 ∷ []) ++ announced (over 1 ∷ []) (over 1 ∷ []) ≡ Announcement (over 2) ∷ []
another_attachment_is_announced = refl

-- with a session ends what was sent and received in it, at both ends
pub an_ended_session_forgets : (let peerings = (world_of two_links (settled_then (BgpDown (node_no 0) (node_no 2) ∷ []))).peerings in
    peerings.heard 0 2 ∷ peerings.heard 2 0 ∷ length (peerings.told 0 2) ∷ length (peerings.told 2 0) ∷ []) ≡ 0 ∷ 0 ∷ 0 ∷ 0 ∷ []
unfolding a_run
an_ended_session_forgets = refl

-- 3. Packets

-- two packets are delivered, each with its own TTL, and numbered in the order of delivery
pub two_are_delivered : ends (Inject (site_no 0) 1 ∷ Inject (site_no 0) 1 ∷ Carry (link_no 0) Forth 1 ∷ Carry (link_no 1) Forth 0
    ∷ Carry (link_no 0) Forth 0 ∷ Carry (link_no 1) Forth 0 ∷ []) (packet ∷ packet_of_ttl_4 ∷ []) ≡ Delivered 61 (site_no 1) 2 ∷ Delivered 1 (site_no 1) 1
    ∷ []
unfolding a_run
two_are_delivered = refl

-- a later step delivers nothing
pub delivered_by_the_last_step : (packets_of two_links (across_both ++ at_start (Detach (site_no 0)) ∷ []) (packet ∷ [])).delivered ≡ None
unfolding a_run
delivered_by_the_last_step = refl

-- what flies back on a link ends with it too, at the far edge
pub both_directions_are_cut : ends (Inject (site_no 1) 1 ∷ LinkDown (link_no 1) ∷ []) (packet_back ∷ []) ≡ Dropped rule.LinkCut (node_no 2) ∷ []
unfolding a_run
both_directions_are_cut = refl

-- the TTL is looked at before the site
pub expiry_comes_before_the_site : ends (Inject (site_no 0) 1 ∷ Detach (site_no 1) ∷ Carry (link_no 0) Forth 0 ∷ Carry (link_no 1) Forth 0 ∷ [])
    (packet_of_ttl_3 ∷ []) ≡ Dropped rule.TtlExpired (node_no 2) ∷ []
unfolding a_run
expiry_comes_before_the_site = refl

-- a packet of TTL 1 to a group, an empty one, and an empty one at a site that is detached
pub rules_at_entry_in_order : ends (Inject (site_no 0) 1 ∷ Inject (site_no 0) 1 ∷ Detach (site_no 0) ∷ Inject (site_no 0) 1 ∷ [])
    (packet_to_a_group ∷ [] ∷ [] ∷ []) ≡ Dropped rule.TtlExpired (node_no 0) ∷ Dropped rule.NotIpv4 (node_no 0) ∷ Dropped rule.SiteDown (node_no 0) ∷ []
unfolding a_run
rules_at_entry_in_order = refl

-- 4. Refusals

-- a target, a switch, a site, a session and a link that are so already
pub so_already : map (λ step. refusal two_links settling [] step []) (Import (vrf_no 0) true target ∷ Import (vrf_no 0) false lesser_target
    ∷ LdpAdmin (link_no 0) true ∷ Attach (site_no 0) ∷ BgpUp (node_no 0) (node_no 2) ∷ LinkUp (link_no 0) ∷ []) ≡ Some Unchanged ∷ Some Unchanged
    ∷ Some Unchanged ∷ Some Unchanged ∷ Some Unchanged ∷ Some Unchanged ∷ []
unfolding a_run
so_already = refl

-- and those that are not
pub not_so_yet : map (λ step. refusal two_links settling [] step []) (Import (vrf_no 0) false target ∷ Export (vrf_no 0) true lesser_target
    ∷ LdpAdmin (link_no 0) false ∷ Detach (site_no 0) ∷ BgpDown (node_no 0) (node_no 2) ∷ LinkDown (link_no 0) ∷ []) ≡ None ∷ None ∷ None ∷ None ∷ None
    ∷ None ∷ []
unfolding a_run
not_so_yet = refl

-- the VRF has the prefix at another of its sites, attached or not; another VRF may have it too
pub a_prefix_is_taken_in_its_vrf : map (λ step. refusal wider (at_start (Detach (site_no 0)) ∷ []) [] step [])
    (AddRoute (site_no 3) near_block ∷ AddRoute (site_no 3) far_block ∷ []) ≡ Some (PrefixTaken (site_no 0)) ∷ None ∷ []
unfolding a_run
a_prefix_is_taken_in_its_vrf = refl

-- also at a site whose number isn't that of its VRF
pub a_prefix_is_taken_at_a_second_site : refusal wider [] [] (AddRoute (site_no 0) (block 168034304 16)) [] ≡ Some (PrefixTaken (site_no 3))
unfolding a_run
a_prefix_is_taken_at_a_second_site = refl

-- the prefix is there, but at another site
pub a_route_is_taken_away_at_its_site : refusal two_links [] [] (DelRoute (site_no 0) far_block) [] ≡ Some NoRouteThere
unfolding a_run
a_route_is_taken_away_at_its_site = refl

-- 65,536 statics are full, and 65,535 aren't; a prefix that is taken is told first
pub statics_are_full : prefix_refusal None 65535 ∷ prefix_refusal None 65536 ∷ prefix_refusal (Some 0) 65536 ∷ [] ≡ None ∷ Some RoutesFull
    ∷ Some (PrefixTaken (site_no 0)) ∷ []
unfolding a_run
statics_are_full = refl

-- so many targets in each set
abbrev with_targets : ℕ → Config
with_targets count = record (first_config two_links) { imports = λ v. range_with_len 0 count; exports = λ v. range_with_len 0 count }

-- a set has at most 16 targets
pub targets_are_full : is_targets_full (with_targets 15) (Import (vrf_no 0) true target) ∷ is_targets_full (with_targets 16) (Import (vrf_no 0) true target)
    ∷ is_targets_full (with_targets 16) (Export (vrf_no 0) true target) ∷ is_targets_full (with_targets 16) (Export (vrf_no 0) false target) ∷ [] ≡ false
    ∷ true ∷ true ∷ false ∷ []
unfolding a_run
targets_are_full = refl

-- two labels for other nodes, one for the site, and one for each attachment anew
pub labels_are_counted : labels_given two_links (first_config two_links) 0
    ∷ labels_given two_links (world_of two_links (map at_start (Detach (site_no 0) ∷ Attach (site_no 0) ∷ []))).config 0 ∷ [] ≡ 3 ∷ 4 ∷ []
unfolding a_run
labels_are_counted = refl

-- 1,048,560 labels are all
pub labels_are_spent : is_spent two_links (record (first_config two_links) { attaches = everywhere 1048556 }) (Attach (site_no 0))
    ∷ is_spent two_links (record (first_config two_links) { attaches = everywhere 1048557 }) (Attach (site_no 0)) ∷ [] ≡ false ∷ true ∷ []
unfolding a_run
labels_are_spent = refl

-- six notices, two of Initialization and two OPEN
pub what_is_in_flight : in_flight two_links
    (world_of two_links (map at_start (LinkUp (link_no 0) ∷ LinkUp (link_no 1) ∷ BgpUp (node_no 0) (node_no 2) ∷ []))) ≡ 10
unfolding a_run
what_is_in_flight = refl

-- so many notices for the near edge
abbrev noticed : ℕ → World
noticed count =
    record (start two_links) {
      views =
          record { changes = λ l. elim l [ zero ↦ count | suc more ↦ 0 ]; learned = λ node l. elim node [ zero ↦ 0 | suc more ↦ count ] };
    }

-- 2,000,000 notices are full for a step that takes nothing out of flight
pub notices_are_full : is_full two_links (noticed 1999999) no_packets (LinkUp (link_no 0)) []
    ∷ is_full two_links (noticed 2000000) no_packets (LinkUp (link_no 0)) [] ∷ is_full two_links (noticed 2000000) no_packets (Inject (site_no 0) 1) []
    ∷ is_full two_links (noticed 2000000) no_packets (Carry (link_no 0) Forth 0) []
    ∷ is_full two_links (noticed 2000000) no_packets (Lose (link_no 0) Forth 0) []
    ∷ is_full two_links (noticed 2000000) no_packets (Learn (node_no 0) (link_no 0)) []
    ∷ is_full two_links (noticed 2000000) no_packets (HearLdp (link_no 0) Forth) []
    ∷ is_full two_links (noticed 2000000) no_packets (HearBgp (node_no 0) (node_no 2)) [] ∷ [] ≡ false ∷ true ∷ true ∷ false ∷ false ∷ false ∷ false ∷ false
    ∷ []
unfolding a_run
notices_are_full = refl

-- a frame whose packet leaves room for one byte
abbrev one_byte_left : Packets
one_byte_left = record no_packets {
  flying =
      λ at. elim at [
        | zero ↦ record { packet = 0; edge = 2; site = 1; attachment = 1; pushed = 63; ttl = 63; sent = 0; bytes = 69 ∷ 0 ∷ 1048575 ∷ 255 ∷ [] } ∷ []
        | suc more ↦ []
      ];
}

-- a packet may fill the room, and not pass it
pub bytes_are_full : is_full two_links (start two_links) one_byte_left (Inject (site_no 0) 1) (69 ∷ [])
    ∷ is_full two_links (start two_links) one_byte_left (Inject (site_no 0) 1) (69 ∷ 0 ∷ []) ∷ [] ≡ false ∷ true ∷ []
unfolding a_run
bytes_are_full = refl

-- 4,000,000 steps are all
pub steps_are_all : refusal_at two_links (start two_links) no_packets 3999999 (LinkUp (link_no 0)) []
    ∷ refusal_at two_links (start two_links) no_packets 4000000 (LinkUp (link_no 0)) [] ∷ [] ≡ None ∷ Some TooManySteps ∷ []
unfolding a_run
steps_are_all = refl

-- all is received, and then a Release and a Withdraw from the near end wait
pub what_was_heard_is_not_in_flight : in_flight two_links (world_of two_links settling)
    ∷ in_flight two_links (world_of two_links (settled_then (LdpAdmin (link_no 1) false ∷ HearLdp (link_no 0) Back ∷ []))) ∷ [] ≡ 0 ∷ 2 ∷ []
unfolding a_run
what_was_heard_is_not_in_flight = refl

-- nothing more is there to be learned, received, carried or lost
pub nothing_more_is_there : map (λ step. refusal two_links settling [] step []) (Learn (node_no 1) (link_no 1) ∷ HearLdp (link_no 0) Forth
    ∷ HearLdp (link_no 1) Back ∷ HearBgp (node_no 0) (node_no 2) ∷ HearBgp (node_no 2) (node_no 0) ∷ Carry (link_no 0) Forth 0 ∷ Lose (link_no 1) Back 0
    ∷ []) ≡ Some Empty ∷ Some Empty ∷ Some Empty ∷ Some Empty ∷ Some Empty ∷ Some Empty ∷ Some Empty ∷ []
unfolding a_run
nothing_more_is_there = refl

-- all is full: the sets of targets, the labels of each node, and what is in flight; and no site is attached
abbrev all_full : World
all_full = record (noticed 2000000) { config = record (with_targets 16) { attached = everywhere None; attaches = everywhere 1048557 } }

-- of several causes the first is told
pub causes_in_order : map (λ step. refusal_at two_links all_full no_packets 4000000 step []) (LinkDown (link_no 0) ∷ Detach (site_no 0)
    ∷ Carry (link_no 0) Forth 0 ∷ AddRoute (site_no 0) near_block ∷ DelRoute (site_no 0) far_block ∷ Import (vrf_no 0) true target ∷ Attach (site_no 0)
    ∷ LinkUp (link_no 0) ∷ Learn (node_no 0) (link_no 0) ∷ []) ≡ Some Unchanged ∷ Some Unchanged ∷ Some Empty ∷ Some (PrefixTaken (site_no 0))
    ∷ Some NoRouteThere ∷ Some TargetsFull ∷ Some LabelsSpent ∷ Some NetFull ∷ Some TooManySteps ∷ []
unfolding a_run
causes_in_order = refl

-- 5. A triangle, in which the near edge reaches the far one by a link of its own, or by the middle

abbrev packet_of_ttl_5 : List ℕ
packet_of_ttl_5 = 69 ∷ 0 ∷ 0 ∷ 28 ∷ 0 ∷ 0 ∷ 0 ∷ 0 ∷ 5 ∷ 17 ∷ 161 ∷ 205 ∷ 10 ∷ 1 ∷ 0 ∷ 1 ∷ 10 ∷ 2 ∷ 0 ∷ 1 ∷ 0 ∷ 53 ∷ 0 ∷ 53 ∷ 0 ∷ 8 ∷ 0 ∷ 0 ∷ []

--     pe1 ---- 10 ---- pe2
--       |               |
--       10 ---- p ---- 50
abbrev triangle : Network
triangle = record two_links {
  links = a_link 0 1 10 ∷ a_link 1 2 50 ∷ a_link 0 2 10 ∷ [];
}

-- all links come up, the edges open their session, and every notice and message is received
abbrev settling_triangle : List Step
settling_triangle =
    (LinkUp (link_no 0) ∷ LinkUp (link_no 1) ∷ LinkUp (link_no 2) ∷ []) ++ (all_learn 0 ++ all_learn 1 ++ all_learn 2)
    ++ heard_on 0 Back 1 ++ heard_on 1 Back 1 ++ heard_on 2 Back 1 ++ heard_on 0 Forth 2 ++ heard_on 0 Back 3 ++ heard_on 1 Forth 2 ++ heard_on 1 Back 3
    ++ heard_on 2 Forth 2 ++ heard_on 2 Back 3 ++ heard_on 0 Forth 4 ++ heard_on 0 Back 2 ++ heard_on 1 Forth 4 ++ heard_on 2 Forth 4 ++ heard_on 2 Back 2
    ++ heard_on 1 Back 2 ++ (BgpUp (node_no 0) (node_no 2) ∷ to_far ∷ to_near ∷ to_far ∷ to_near ∷ to_far ∷ to_near ∷ [])

abbrev runs_round : List Step → List ℕ → Packets
runs_round steps bytes = packets_of triangle (map at_start (settling_triangle ++ LinkDown (link_no 2) ∷ Learn (node_no 0) (link_no 2) ∷ steps)) (bytes ∷ [])

-- the near edge knows that its link is down, and uses what it received from the middle before; the middle, which does not know, sends back
pub a_loop_ends_by_ttl : (runs_round (Inject (site_no 0) 1 ∷ Carry (link_no 0) Forth 0 ∷ Carry (link_no 0) Back 0 ∷ Carry (link_no 0) Forth 0
    ∷ Carry (link_no 0) Back 0 ∷ []) packet_of_ttl_5).verdicts ≡ Dropped rule.TtlExpired (node_no 0) ∷ []
unfolding a_run
a_loop_ends_by_ttl = refl

-- there and back and there and back
pub a_loop_goes_to_and_fro : (runs_round (Inject (site_no 0) 1 ∷ Carry (link_no 0) Forth 0 ∷ Carry (link_no 0) Back 0 ∷ Carry (link_no 0) Forth 0
    ∷ Carry (link_no 0) Back 0 ∷ []) packet_of_ttl_5).paths ≡ (0 ∷ 1 ∷ 0 ∷ 1 ∷ 0 ∷ []) ∷ []
unfolding a_run
a_loop_goes_to_and_fro = refl

-- back at the entry node, on a Carry, the rule is another than at entry
pub no_entry_at_the_entry_node : (runs_round (Inject (site_no 0) 1 ∷ Carry (link_no 0) Forth 0 ∷ LdpAdmin (link_no 0) false ∷ Carry (link_no 0) Back 0
    ∷ []) packet).verdicts ≡ Dropped rule.NoEntry (node_no 0) ∷ []
unfolding a_run
no_entry_at_the_entry_node = refl
