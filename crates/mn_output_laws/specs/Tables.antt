-- The tables that a script asks for, over what the ledger tells of the journal so far.
use Rattle.std.specs.Prelude.{ℕ, ◌==◌, ◌&&◌, Bool, true, false, not, nat_lt, if◌then◌else◌, List, [], ◌∷◌, ◌++◌}
use Rattle.std.specs.Prelude.{filter, length, Option, Some, None, codes}
use Rattle.std.specs.List.{flat_map, list_any}
use Rattle.std.specs.Fmt.{decimal}
use Rattle.mn_wiring.specs.Wiring.{View, nodes_of, links_of, link, sender, receiver}
use Rattle.mn_wiring.specs.Paths.{dist_in, dists_to, next}
use Rattle.mn_wiring.specs.declared.links.Dir.{Dir}
use Rattle.mn_wiring.specs.declared.links.Dir.TheVariants.{Forth, Back}
use Rattle.mn_states.specs.declared.states.LdpState.{LdpState}
use Rattle.mn_states.specs.declared.states.LdpState.TheVariants as ldp
use Rattle.mn_states.specs.declared.states.BgpState.{BgpState}
use Rattle.mn_states.specs.declared.states.BgpState.TheVariants as bgp
use Rattle.mn_prefix.specs.Prefix.{AddressBlock, same_prefix}
use Rattle.mn_text.specs.Addresses.{prefix_text}
use Rattle.mn_topo.specs.Network.{Network, wiring_of}
use Rattle.mn_topo.specs.declared.steps.JournalEntry.{JournalEntry}
use Rattle.mn_script.specs.declared.command.Show.{Show}
use Rattle.mn_script.specs.declared.command.Show.TheVariants.{Links, Tree, Ldp, Bgp, Vrf, Flight, Frame}
use Rattle.mn_ledger.specs.Places.{edge_of, edges}
use Rattle.mn_ledger.specs.World.{World}
use Rattle.mn_ledger.specs.Transport.{view_of, lives}
use Rattle.mn_ledger.specs.Transport as transport
use Rattle.mn_ledger.specs.Held.{HeldRoute, Source, Own, Near, Far, held}
use Rattle.mn_ledger.specs.Heads.{prefixes_of, best_for}
use Rattle.mn_ledger.specs.Eligible.{is_resolved, only_if}
use Rattle.mn_ledger.specs.Bgp as ledger_bgp
use Rattle.mn_ledger.specs.Items.{Item, Frames, items_on, flight_of}
use Rattle.mn_ledger.specs.Ledger.{world_of}
use Rattle.mn_frame_laws.specs.Given.{Labelling, given, label_at}
use Rattle.mn_course_laws.specs.declared.coming.Kind.{Kind}
use Rattle.mn_course_laws.specs.declared.coming.Kind.TheVariants.{Notice, Message}
use Rattle.mn_course_laws.specs.Coming.{is_kind, kind_of}
use Rattle.mn_lines.specs.Lines.{text}
use Rattle.mn_output_laws.specs.Files.{node_name}
pub use Rattle.mn_output_laws.specs.Files.{vrf_name, site_name}
use Rattle.mn_output_laws.specs.Shown.{frame_line}

-- the names of two nodes
abbrev pub two_names : Network → ℕ → ℕ → List ℕ
two_names topology a b = text (node_name topology a ∷ codes " " ∷ node_name topology b ∷ [])

-- of the node that sends in a direction of a link, and of the one that receives
abbrev pub link_names : Network → ℕ → Dir → List ℕ
link_names topology l dir = two_names topology (sender (wiring_of topology) l dir) (receiver (wiring_of topology) l dir)

-- 1. Links

abbrev pub up_or_down : Bool → List ℕ
up_or_down true = codes " up"
up_or_down false = codes " down"

abbrev pub link_line : Network → World → ℕ → List ℕ
link_line topology world l =
    text (codes "link " ∷ link_names topology l Forth ∷ up_or_down (world.config.is_up l) ∷ codes " cost " ∷ decimal (link (wiring_of topology) l).cost
    ∷ codes " changes " ∷ decimal (world.views.changes l) ∷ codes "\n" ∷ [])

-- 2. The least walks of a node, over the links that it takes for up

abbrev pub walk_text : Network → Option ℕ → Option (ℕ × ℕ) → List ℕ
walk_text topology (Some cost) (Some hop) = text (codes " cost " ∷ decimal cost ∷ codes " next " ∷ node_name topology hop.0 ∷ codes "\n" ∷ [])
walk_text topology _ _ = codes " unreachable\n"

abbrev pub tree_line : Network → View → ℕ → ℕ → List ℕ
tree_line topology view node to =
    text (codes "tree " ∷ node_name topology node ∷ codes " to " ∷ node_name topology to
    ∷ walk_text topology (dist_in (dists_to (wiring_of topology) view to) node) (next (wiring_of topology) view node to) ∷ [])

abbrev pub tree_lines : Network → World → ℕ → List ℕ
tree_lines topology world node =
    flat_map (tree_line topology (view_of (wiring_of topology) world.views node) node) (filter (λ to. not (to == node)) (nodes_of (wiring_of topology)))

-- 3. LDP: RFC 5036, section 2.5.4

abbrev pub ldp_name : LdpState → List ℕ
ldp_name ldp.Initialized = codes "initialized"
ldp_name ldp.OpenSent = codes "opensent"
ldp_name ldp.OpenRec = codes "openrec"
ldp_name ldp.Operational = codes "operational"

-- where no session lives, no end has a state
abbrev pub ldp_text : Network → World → ℕ → ℕ → List ℕ
ldp_text topology world l node = if lives world.config l then ldp_name (transport.ldp_state_of topology world.sessions l node) else codes "none"

abbrev pub ldp_line : Network → World → ℕ → List ℕ
ldp_line topology world l =
    let a : ℕ = sender (wiring_of topology) l Forth in
    let b : ℕ = receiver (wiring_of topology) l Forth in
    text (codes "ldp " ∷ node_name topology a ∷ codes " " ∷ ldp_text topology world l a ∷ codes " " ∷ node_name topology b ∷ codes " "
    ∷ ldp_text topology world l b ∷ codes "\n" ∷ [])

-- 4. BGP: RFC 4271, section 8.2.2

abbrev pub bgp_name : BgpState → List ℕ
bgp_name bgp.Idle = codes "idle"
bgp_name bgp.OpenSent = codes "opensent"
bgp_name bgp.OpenConfirm = codes "openconfirm"
bgp_name bgp.Established = codes "established"

abbrev pub bgp_text : World → ℕ → ℕ → List ℕ
bgp_text world edge peer = bgp_name (ledger_bgp.bgp_state_of world.config world.peerings edge peer)

abbrev pub bgp_line : Network → World → ℕ → ℕ → List ℕ
bgp_line topology world a b =
    text (codes "bgp " ∷ node_name topology a ∷ codes " " ∷ bgp_text world a b ∷ codes " " ∷ node_name topology b ∷ codes " "
    ∷ bgp_text world b a ∷ codes "\n" ∷ [])

-- with each edge of greater number
abbrev pub bgp_lines : Network → World → ℕ → List ℕ
bgp_lines topology world a = flat_map (bgp_line topology world a) (filter (nat_lt a) (edges topology))

-- 5. The routes of a VRF: RFC 4364, section 3

-- over its own site, another VRF of the edge, or another edge by the label that it gave
abbrev pub source_text : Network → Labelling → HeldRoute → Source → List ℕ
source_text topology given route Own = text (codes "site " ∷ site_name topology route.site ∷ [])
source_text topology given route (Near v) = text (codes "vrf " ∷ vrf_name topology v ∷ codes " site " ∷ site_name topology route.site ∷ [])
source_text topology given route (Far address rd) =
    text (codes "edge " ∷ node_name topology route.edge ∷ codes " label " ∷ decimal (label_at given route.edge route.site route.attachment) ∷ [])

abbrev pub route_line : Network → Labelling → ℕ → Option HeldRoute → List ℕ
route_line topology given v None = []
route_line topology given v (Some route) =
    text (codes "route " ∷ vrf_name topology v ∷ codes " " ∷ prefix_text route.prefix ∷ codes " " ∷ source_text topology given route route.source
    ∷ codes "\n" ∷ [])

-- the mark of a route that isn't resolved; one of the edge itself always is
abbrev pub mark_text : Source → Bool → List ℕ
mark_text (Far address rd) true = codes " unresolved"
mark_text (Far address rd) false = []
mark_text Own unresolved = []
mark_text (Near v) unresolved = []

abbrev pub marked_line : Network → Labelling → ℕ → Bool → HeldRoute → List ℕ
marked_line topology given v unresolved route =
    text (codes "route " ∷ vrf_name topology v ∷ codes " " ∷ prefix_text route.prefix ∷ codes " " ∷ source_text topology given route route.source
    ∷ mark_text route.source unresolved ∷ codes "\n" ∷ [])

-- where the topology resolves next hops, the route's can't be reached by a label path: RFC 4271, section 9.1.2
abbrev pub is_unresolved : Network → World → ℕ → HeldRoute → Bool
is_unresolved topology world edge route = topology.resolve && not (is_resolved topology world edge route)

-- the routes of which a prefix's best is shown: where the topology resolves next hops, and one of the prefix is resolved, those that are; else all
abbrev pub shown_among : Network → World → ℕ → AddressBlock → List HeldRoute → List HeldRoute
shown_among topology world edge prefix routes =
    only_if (topology.resolve && list_any (λ (route : HeldRoute). same_prefix route.prefix prefix) (filter (is_resolved topology world edge) routes))
    (is_resolved topology world edge) routes

abbrev pub shown_line : Network → World → Labelling → ℕ → Option HeldRoute → List ℕ
shown_line topology world given v None = []
shown_line topology world given v (Some route) = marked_line topology given v (is_unresolved topology world (edge_of topology v) route) route

abbrev pub shown_lines : Network → World → Labelling → ℕ → List HeldRoute → List ℕ
shown_lines topology world given v routes =
    flat_map (λ prefix. shown_line topology world given v (best_for (shown_among topology world (edge_of topology v) prefix routes) prefix))
    (prefixes_of routes)

abbrev pub held_in : Network → World → ℕ → List HeldRoute
held_in topology world v = held topology world.config world.peerings (edge_of topology v) v

-- 6. What is in flight

abbrev pub count_of : Kind → List Item → ℕ
count_of kind items = length (filter (λ item. is_kind kind (kind_of item.on)) items)

-- a direction in which no frame flies has no line
abbrev pub frames_line : Network → ℕ → Dir → List Item → List ℕ
frames_line topology l dir [] = []
frames_line topology l dir (frame ∷ frames) =
    text (codes "frames " ∷ link_names topology l dir ∷ codes " " ∷ decimal (length (frame ∷ frames)) ∷ codes "\n" ∷ [])

abbrev pub frames_lines : Network → List Item → ℕ → List ℕ
frames_lines topology items l =
    frames_line topology l Forth (items_on (Frames l Forth) items) ++ frames_line topology l Back (items_on (Frames l Back) items)

abbrev pub flight_lines : Network → List Item → List ℕ
flight_lines topology items =
    text (codes "notices " ∷ decimal (count_of Notice items) ∷ codes "\nmessages " ∷ decimal (count_of Message items) ∷ codes "\n" ∷ [])
    ++ flat_map (frames_lines topology items) (links_of (wiring_of topology))

-- 7. A table, as it stands after a journal; the packet is that of the record that it names

abbrev pub table_text : Network → List JournalEntry → List (List ℕ) → Option (List ℕ) → Show → List ℕ
table_text topology entries inputs packet Links = flat_map (link_line topology (world_of topology entries)) (links_of (wiring_of topology))
table_text topology entries inputs packet (Tree node) = tree_lines topology (world_of topology entries) node.0
table_text topology entries inputs packet Ldp = flat_map (ldp_line topology (world_of topology entries)) (links_of (wiring_of topology))
table_text topology entries inputs packet Bgp = flat_map (bgp_lines topology (world_of topology entries)) (edges topology)
table_text topology entries inputs packet (Vrf v) =
    shown_lines topology (world_of topology entries) (given topology entries) v.0 (held_in topology (world_of topology entries) v.0)
table_text topology entries inputs packet Flight = flight_lines topology (flight_of topology entries inputs).items
table_text topology entries inputs packet (Frame node number) = frame_line topology entries node.0 number packet
