-- What is in flight: notices of links' changes, messages of sessions, and frames, each with its number and the tick at which
-- it is due.
use Rattle.std.specs.Prelude.{ℕ, zero, suc, ◌+◌, ◌==◌, ◌&&◌, ◌||◌, nat_lt, Bool, false, cond, not, if◌then◌else◌, List, [], ◌∷◌, ◌++◌, map, filter, length}
use Rattle.std.specs.Prelude.{slice_get, Option, Some, None}
use Rattle.mn_topo.specs.Wiring.{nodes_of, link, sender}
use Rattle.mn_topo.specs.Dir.{Dir}
use Rattle.mn_topo.specs.Network.{Network, wiring_of}
use Rattle.mn_topo.specs.declared.steps.Step.{Step}
use Rattle.mn_topo.specs.declared.steps.Step.TheVariants.{LinkUp, LinkDown, Learn, LdpAdmin, HearLdp, BgpUp, BgpDown, HearBgp, Inject, Carry, Lose, Tick}
use Rattle.mn_topo.specs.declared.steps.JournalEntry.{JournalEntry}
use Rattle.mn_ledger.specs.declared.verdict.Verdict.{Verdict}
use Rattle.mn_ledger.specs.declared.verdict.Verdict.TheVariants.{Flying}
use Rattle.mn_ledger.specs.World.{World, Message, Telling}
use Rattle.mn_ledger.specs.Transport.{Said, is_transport, said_in, ldp_counted}
use Rattle.mn_ledger.specs.Bgp as ledger_bgp
use Rattle.mn_ledger.specs.Bgp.{Told, is_routing, told_in}
use Rattle.mn_ledger.specs.Packets.{Token, Packets, channel, flying_on, packets_after}
use Rattle.mn_ledger.specs.Time.{clock_after, is_overdue, timed}
use Rattle.mn_ledger.specs.Verdicts.{verdict_on}
use Rattle.mn_ledger.specs.Ledger.{after, start, no_packets, next_of, left_by}

-- 1. Channels and what flies in them

-- from a link to a node, from an end of a link to the other, from an edge to a peer, and over a link in a direction
pub data Channel : Type 0 where
  Notices : (l : ℕ) → (node : ℕ) → Channel
  Messages : (l : ℕ) → (end : ℕ) → Channel
  Routes : (edge : ℕ) → (peer : ℕ) → Channel
  Frames : (l : ℕ) → (dir : Dir) → Channel

pub data Load : Type 0 where
  Notice : Load
  Says : (message : Message) → Load
  Tells : (telling : Telling) → Load
  Carries : (token : Token) → Load

pub record Item : Type 0 where
  pub number : ℕ
  pub due : ℕ
  pub on : Channel
  pub load : Load

-- how many items were made, and those in flight in the order of their numbers
pub record Flight : Type 0 where
  pub made : ℕ
  pub items : List Item

abbrev pub same_channel : Channel → Channel → Bool
same_channel (Notices l node) (Notices other_l other) = (other_l == l) && (other == node)
same_channel (Messages l end) (Messages other_l other) = (other_l == l) && (other == end)
same_channel (Routes edge peer) (Routes other other_peer) = (other == edge) && (other_peer == peer)
same_channel (Frames l dir) (Frames other other_dir) = channel other other_dir == channel l dir
same_channel _ _ = false

-- what is on a channel, in the order of making
abbrev pub items_on : Channel → List Item → List Item
items_on on items = filter (λ item. same_channel on item.on) items

abbrev pub loads_on : Channel → List Item → List Load
loads_on on items = map (λ item. item.load) (items_on on items)

-- 2. What a step makes

-- each change of a link is told to each node by a notice
abbrev pub notices_in : Network → Step → List (Channel × Load)
notices_in topology (LinkUp l) = map (λ node. (Notices l.0 node, Notice)) (nodes_of (wiring_of topology))
notices_in topology (LinkDown l) = map (λ node. (Notices l.0 node, Notice)) (nodes_of (wiring_of topology))
notices_in topology _ = []

abbrev pub message_of : Said → Channel × Load
message_of said = (Messages said.link said.end, Says said.message)

abbrev pub messages_in : Network → World → World → Step → List (Channel × Load)
messages_in topology world later step =
    if is_transport step then map message_of
    (said_in topology world.config world.views world.sessions later.config later.views (ldp_counted topology world.sessions step) step) else []

abbrev pub route_of : Told → Channel × Load
route_of told = (Routes told.teller told.peer, Tells told.telling)

abbrev pub routes_in : Network → World → World → Step → List (Channel × Load)
routes_in topology world later step =
    if is_routing step then map route_of (told_in topology world.config world.peerings later.config (ledger_bgp.bgp_counted world.peerings step) step) else []

abbrev pub last_of : List Token → List Token
last_of [] = []
last_of (token ∷ []) = token ∷ []
last_of (token ∷ other ∷ tokens) = last_of (other ∷ tokens)

-- the frame of a packet that flies now, which is the last of its direction
abbrev pub frame_by : Packets → Verdict → List (Channel × Load)
frame_by packets (Flying l dir) = map (λ token. (Frames l.0 dir, Carries token)) (last_of (flying_on packets l.0 dir))
frame_by packets _ = []

abbrev pub frame_after : Packets → Option Token → List (Channel × Load)
frame_after packets None = []
frame_after packets (Some token) = frame_by packets (verdict_on packets token.packet)

-- a packet that enters or is carried may fly on
abbrev pub frames_in : Packets → Packets → Step → List (Channel × Load)
frames_in packets later (Inject s number) = frame_by later (verdict_on later (length packets.verdicts))
frames_in packets later (Carry l dir place) = frame_after later (slice_get (flying_on packets l.0 dir) place)
frames_in packets later _ = []

-- all that a step makes, in order: notices, messages of LDP and of BGP, a frame
abbrev pub made_in : Network → World → World → Packets → Packets → Step → List (Channel × Load)
made_in topology world later packets packets_then step =
    notices_in topology step ++ (messages_in topology world later step ++ (routes_in topology world later step ++ frames_in packets packets_then step))

-- ticks from making to arriving
abbrev pub delay_on : Network → Channel → ℕ
delay_on topology (Notices l node) = topology.notice_delay
delay_on topology (Messages l end) = (link (wiring_of topology) l).delay
delay_on topology (Routes edge peer) = topology.bgp_delay
delay_on topology (Frames l dir) = (link (wiring_of topology) l).delay

-- items made at a tick, numbered from this number
abbrev pub numbered : Network → ℕ → ℕ → List (Channel × Load) → List Item
numbered topology tick number [] = []
numbered topology tick number (made ∷ rest) =
    record { number = number; due = tick + delay_on topology made.0; on = made.0; load = made.1 } ∷ numbered topology tick (number + 1) rest

-- 3. What a step takes out of flight

-- without the item at a place, from 0, among those on the channel
abbrev pub without : Channel → ℕ → List Item → List Item
without on place [] = []
without on zero (item ∷ items) = cond (same_channel on item.on) items (item ∷ without on zero items)
without on (suc place) (item ∷ items) = item ∷ cond (same_channel on item.on) (without on place items) (without on (suc place) items)

abbrev pub is_session_of : ℕ → Channel → Bool
is_session_of l (Messages other end) = l == other
is_session_of l _ = false

abbrev pub is_over : ℕ → Channel → Bool
is_over l (Frames other dir) = l == other
is_over l _ = false

abbrev pub is_between : ℕ → ℕ → Channel → Bool
is_between a b (Routes edge peer) = ((a == edge) && (b == peer)) || ((b == edge) && (a == peer))
is_between a b _ = false

-- what is received, learned, carried or lost leaves; with a session its messages, and with a link its frames too
abbrev pub left_in_flight : Network → Step → List Item → List Item
left_in_flight topology (Learn node l) items = without (Notices l.0 node.0) 0 items
left_in_flight topology (HearLdp l dir) items = without (Messages l.0 (sender (wiring_of topology) l.0 dir)) 0 items
left_in_flight topology (HearBgp a b) items = without (Routes a.0 b.0) 0 items
left_in_flight topology (Carry l dir place) items = without (Frames l.0 dir) place items
left_in_flight topology (Lose l dir place) items = without (Frames l.0 dir) place items
left_in_flight topology (LinkUp l) items = filter (λ item. not (is_session_of l.0 item.on)) items
left_in_flight topology (LinkDown l) items = filter (λ item. not (is_session_of l.0 item.on || is_over l.0 item.on)) items
left_in_flight topology (LdpAdmin l on) items = filter (λ item. not (is_session_of l.0 item.on)) items
left_in_flight topology (BgpUp a b) items = filter (λ item. not (is_between a.0 b.0 item.on)) items
left_in_flight topology (BgpDown a b) items = filter (λ item. not (is_between a.0 b.0 item.on)) items
left_in_flight topology _ items = items

-- a frame that was sent longer ago than the life of its link
abbrev pub is_late : Network → ℕ → Channel → Load → Bool
is_late topology clock (Frames l dir) (Carries token) = nat_lt l (length topology.links) && is_overdue topology clock l token
is_late topology clock _ _ = false

-- as time goes on, what is overdue is no longer in flight
abbrev pub in_time_by : Network → ℕ → Step → Flight → Flight
in_time_by topology clock (Tick ticks) flight = record flight { items = filter (λ item. not (is_late topology clock item.on item.load)) flight.items }
in_time_by topology clock _ flight = flight

abbrev pub in_time : Network → JournalEntry → Flight → Flight
in_time topology entry flight = in_time_by topology (clock_after entry) entry.step flight

-- 4. The flight after a step, and after a journal; and all that the journal made

abbrev pub with_made : Network → ℕ → List (Channel × Load) → Step → Flight → Flight
with_made topology tick new step flight =
    record { made = flight.made + length new; items = left_in_flight topology step flight.items ++ numbered topology tick flight.made new }

abbrev pub flight_from : Network → World → Packets → Flight → List JournalEntry → List (List ℕ) → Flight
flight_from topology world packets flight [] inputs = flight
flight_from topology world packets flight (entry ∷ entries) inputs =
    let world_then : World = after topology world entry.step in
    let packets_now : Packets = timed topology entry packets in
    let packets_then : Packets = packets_after topology world_then packets_now entry.step (next_of inputs) in
    let flight_then : Flight =
    with_made topology entry.tick (made_in topology world world_then packets_now packets_then entry.step) entry.step (in_time topology entry flight) in
    flight_from topology world_then packets_then flight_then entries (left_by entry.step inputs)

abbrev pub flight_of : Network → List JournalEntry → List (List ℕ) → Flight
flight_of topology entries inputs = flight_from topology (start topology) no_packets (record { made = 0; items = [] }) entries inputs

-- all items that these entries make, numbered from this number, each due its channel's delay after its entry's tick
abbrev pub made_from : Network → World → Packets → ℕ → List JournalEntry → List (List ℕ) → List Item
made_from topology world packets number [] inputs = []
made_from topology world packets number (entry ∷ entries) inputs =
    let world_then : World = after topology world entry.step in
    let packets_now : Packets = timed topology entry packets in
    let packets_then : Packets = packets_after topology world_then packets_now entry.step (next_of inputs) in
    let new : List (Channel × Load) = made_in topology world world_then packets_now packets_then entry.step in
    numbered topology entry.tick number new ++ made_from topology world_then packets_then (number + length new) entries (left_by entry.step inputs)

abbrev pub made_by : Network → List JournalEntry → List (List ℕ) → List Item
made_by topology entries inputs = made_from topology (start topology) no_packets 0 entries inputs
