-- What becomes of a packet that leaves its edge, by what the node answers of the way out: RFC 3031, section 3.10; RFC 4364, section 5.
use Rattle.std.specs.Prelude.{◌≡◌, ◌≢◌, ◌<◌, ℕ, ◌-◌, List, [], ◌∷◌, length, Option, Some, None, true}
use Rattle.mn_drops.specs.declared.drops.Rule.TheVariants as rule
use Rattle.mn_wiring.specs.declared.links.Dir.{Dir}
use Rattle.mn_base.specs.declared.numbers.NodeNo.{NodeNo}
use Rattle.mn_ipv4.specs.Header.{ttl_of}
use Rattle.mn_stack.specs.declared.message.Entry.{Entry}
use Rattle.mn_stack.specs.Labelled.{Labelled, pushed}
use Rattle.mn_topo.specs.Network.{Network, Leads}
use Rattle.mn_topo.specs.Links.{are_joined}
use Rattle.mn_topo.specs.Lawful.{IsLawful}
use Rattle.mn_ledger.specs.World.{World}
use Rattle.mn_ledger.specs.Held.{HeldRoute}
use Rattle.mn_ledger.specs.Packets.{Token, Packets, bound, drop_at, deliver, hop_on, stamped}
use Rattle.mn_frame_laws.specs.Given.{Labelling}
use Rattle.mn_frame_laws.specs.Frames.{IsFrameOf, IsSound}
use Rattle.mn_frame_laws.specs.Entries.{IsPushed, IsAged, outer_for}
use Rattle.mn_frame_laws.specs.Arrivals.{sent}
use Rattle.mn_frame_laws.specs.Tables.{AreMapped}

-- the label on top, if there is one, with the TTL of the entry below it
abbrev pub with_outer : Option ℕ → List Entry → List Entry
with_outer None entries = entries
with_outer (Some label) [] = []
with_outer (Some label) (top ∷ below) = pushed (top ∷ below) label top.ttl

-- With no way out the packet is dropped for want of a path. Over a next hop it flies on the link to it, and the label on top of
-- its attachment's entry makes the frame of the packet on its way there.
abbrev pub Departs : Network → Labelling → Packets → Token → ℕ → Packets → Option (NodeNo × Option ℕ) → Labelled → Type 0
Departs topology given packets token node later None frame = later ≡ drop_at packets token.packet rule.NoLsp node
Departs topology given packets token node later (Some out) frame =
    ((l : ℕ) (dir : Dir) → Leads topology node out.0.0 l dir → later ≡ sent packets (stamped packets token) l dir)
    × IsFrameOf given token out.0.0 (record frame { entries = with_outer out.1 frame.entries })
    × IsSound topology given token
    × (are_joined topology.links node out.0.0 ≡ true)

-- a packet bound to another edge's route leaves as the ledger's does
abbrev pub LeavesAsTold : Type 0
LeavesAsTold =
    (topology : Network) (given : Labelling) (world : World) (packets : Packets) (packet : ℕ) (route : HeldRoute) (bytes : List ℕ) (node : ℕ) (frame : Labelled)
    → IsLawful topology → node < length topology.loopbacks → node ≢ route.edge → AreMapped topology given world → IsPushed topology given route bytes frame
    → Departs topology given packets (bound packet route bytes) node (hop_on topology world packets (bound packet route bytes) node rule.NoLsp)
    (outer_for topology given world node route.edge) frame

-- one for a site of the same edge is delivered there at once, one hop older
abbrev pub StaysAsTold : Type 0
StaysAsTold = (packets : Packets) (packet site : ℕ) (bytes : List ℕ) (frame : Labelled) → IsAged bytes frame →
    (deliver packets packet site (ttl_of bytes - 1) bytes).delivered ≡ Some frame.packet
