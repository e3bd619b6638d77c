-- What an edge says of a packet that a site sends: RFC 1812, sections 4.2.2 and 5.2; RFC 4364, section 5; RFC 3032, section 2.4.
use Rattle.std.specs.Prelude.{◌≡◌, ◌≤◌, ◌<◌, ◌^◌, ◌-◌, ℕ, ⊤, IsTrue, Bool, true, is_none, List, [], ◌∷◌, Option, Some, None, option_map, Result, Ok, Err}
use Rattle.mn_drops.specs.declared.drops.Rule.{Rule}
use Rattle.mn_drops.specs.declared.drops.Rule.TheVariants as rule
use Rattle.mn_prefix.specs.Prefix.{AddressBlock}
use Rattle.mn_prefix.specs.Table.{longest_match}
use Rattle.mn_ipv4.specs.declared.header.Head.{Head}
use Rattle.mn_ipv4.specs.Header.{good, aged, ttl_of, destination_of}
use Rattle.mn_ipv4.specs.Check.{head_of}
use Rattle.mn_stack.specs.Labelled.{Labelled}
use Rattle.mn_topo.specs.Network.{Network, wiring_of}
use Rattle.mn_ledger.specs.Entry.{first_rule}
use Rattle.mn_ledger.specs.Places.{home_of, vrf_of}
use Rattle.mn_ledger.specs.World.{World}
use Rattle.mn_ledger.specs.Transport.{known, offers}
use Rattle.mn_ledger.specs.Held.{HeldRoute, best}
use Rattle.mn_ledger.specs.Eligible.{eligible}
use Rattle.mn_ledger.specs.Held as ledger_held
use Rattle.mn_ledger.specs.Packets.{entry_rules, bound}
use Rattle.mn_frame_laws.specs.Given.{Labelling, label_at}
use Rattle.mn_frame_laws.specs.Frames.{entry, IsSound}
use Rattle.mn_frame_laws.specs.Entries.{fate, Falls, Stays, Leaves, IsPushed, IsAged}
use Rattle.mn_vrf.specs.declared.source.Source.{Source}
use Rattle.mn_vrf.specs.declared.source.Source.TheVariants.{Own, Near, Far}
use Rattle.mn_vrf.specs.Routes.{found_among}
use Rattle.mn_vrf.specs.Vrf.{VrfState}
use Rattle.mn_pe.specs.declared.entering.Entered.{Entered}
use Rattle.mn_pe.specs.declared.entering.Entered.TheVariants.{Drop, Local, Tunnel}
use Rattle.mn_pe.specs.Edge.{Edge, vrf_of_site}
use Rattle.mn_pe.specs.Held.{site_label, held_by, own_over, near_over, far_over}
use Rattle.mn_pe.specs.Pe.{found_in}

-- 1. By the edge

-- the packet alone, one hop older
abbrev pub alone : List ℕ → Labelled
alone bytes = record { entries = []; packet = aged bytes 1; room = 2 }

-- and behind the entry of a label
abbrev pub behind : ℕ → List ℕ → Labelled
behind label bytes = record { entries = entry label true (ttl_of bytes - 1) ∷ []; packet = aged bytes 1; room = 1 }

-- a site of the edge gets the packet, or it is bound to the edge that gave the route its label
abbrev pub entered_over : List ℕ → Source → Entered
entered_over bytes (Own site) = Local site (alone bytes)
entered_over bytes (Near vrf site) = Local site (alone bytes)
entered_over bytes (Far loopback rd edge label) = Tunnel edge (behind label bytes)

abbrev pub entered_by : List ℕ → Option Rule → Option (AddressBlock × Source) → Entered
entered_by bytes (Some cause) route = Drop cause
entered_by bytes None None = Drop rule.NoRoute
entered_by bytes None (Some route) = entered_over bytes route.1

-- the best route of a site's VRF for an address
abbrev pub route_for : Edge → ℕ → ℕ → Option (AddressBlock × Source)
route_for edge site address = found_in (vrf_of_site edge site) (λ (vrf : VrfState). longest_match address (held_by edge vrf)) edge.vrfs

-- the best of the open ones for it; where none is open, the best of all
abbrev pub route_among : Edge → List Bool → ℕ → ℕ → Option (AddressBlock × Source)
route_among edge ways site address = found_in (vrf_of_site edge site) (λ (vrf : VrfState). found_among ways address (held_by edge vrf)) edge.vrfs

-- by the first rule that applies, and then by the best route
abbrev pub entered_at : Edge → ℕ → List ℕ → Entered
entered_at edge site bytes = entered_by bytes (first_rule (entry_rules (site_label edge site) bytes)) (route_for edge site (destination_of bytes))

-- and by the best of the open ones
abbrev pub entered_among : Edge → List Bool → ℕ → List ℕ → Entered
entered_among edge ways site bytes =
    entered_by bytes (first_rule (entry_rules (site_label edge site) bytes)) (route_among edge ways site (destination_of bytes))

-- the header is the packet's, which is good and has a hop left
pub record IsFit (bytes : List ℕ) (head : Head) : Type 0 where
  pub is_good : IsTrue (good bytes)
  pub fields : head ≡ head_of bytes
  pub alive : 2 ≤ head.ttl

-- what the rules before the last one say of a packet
abbrev pub Passes : Option ℕ → List ℕ → Result Head Rule → Type 0
Passes label bytes (Ok head) = (first_rule (entry_rules label bytes) ≡ None) × IsFit bytes head
Passes label bytes (Err cause) = first_rule (entry_rules label bytes) ≡ Some cause

-- a peer's label has 20 bits
abbrev pub HasLabel : Source → Type 0
HasLabel (Far loopback rd edge label) = label < 2 ^ 20
HasLabel source = ⊤

-- 2. By the ledger

-- a held route of the ledger, as an edge holds it
abbrev pub source_of : Labelling → HeldRoute → ledger_held.Source → Source
source_of given route ledger_held.Own = own_over route.site
source_of given route (ledger_held.Near v) = near_over v route.site
source_of given route (ledger_held.Far address rd) = far_over address rd route.edge (label_at given route.edge route.site route.attachment)

abbrev pub as_held : Labelling → HeldRoute → AddressBlock × Source
as_held given route = (route.prefix, source_of given route route.source)

-- Where the packet enters, the edge stands for the ledger's world: its site has a label while it is attached, the route that it finds
-- where no rule on the bytes applies is the ledger's choice, and what would leave is sound.
pub record StandsAtEntry (edge : Edge) (found : Option (AddressBlock × Source)) (topology : Network) (given : Labelling) (world : World) (site : ℕ)
    (bytes : List ℕ) : Type 0 where
  pub attached : is_none (site_label edge site) ≡ is_none (world.config.attached site)
  pub route : first_rule (entry_rules (world.config.attached site) bytes) ≡ None → found
      ≡ option_map (as_held given) (best (eligible topology world (home_of topology site) (vrf_of topology site) (destination_of bytes)) (destination_of bytes))
  pub sound : (route : HeldRoute) → fate topology world site bytes ≡ Leaves route → IsSound topology given (bound 0 route bytes)

-- where the topology resolves next hops, the node can send towards the edge to which the packet is bound
abbrev pub IsWayOpen : Network → World → ℕ → Entered → Type 0
IsWayOpen topology world node (Tunnel edge frame) =
    topology.resolve ≡ true → offers (wiring_of topology) (known topology world node) node edge.0 ≡ true
IsWayOpen topology world node _ = ⊤

-- the edge to which it is bound is one of so many nodes
abbrev pub IsBoundBelow : ℕ → Entered → Type 0
IsBoundBelow nodes (Tunnel edge frame) = edge.0 < nodes
IsBoundBelow nodes _ = ⊤

-- the answer is the packet's fate
abbrev pub IsItsFate : Network → Labelling → World → ℕ → List ℕ → Entered → Type 0
IsItsFate topology given world site bytes (Drop cause) = fate topology world site bytes ≡ Falls cause
IsItsFate topology given world site bytes (Local to frame) = (fate topology world site bytes ≡ Stays to.0) × IsAged bytes frame
IsItsFate topology given world site bytes (Tunnel edge frame) =
    (route : HeldRoute) × (fate topology world site bytes ≡ Leaves route) × (route.edge ≡ edge.0) × IsPushed topology given route bytes frame
