-- Numbers and due ticks: which items of the ledger's flight one of the network's four flights holds.
use Rattle.std.specs.Prelude.{◌≡◌, ◌≤◌, ◌+◌, ◌*◌, ◌/◌, ◌<◌, ◌==◌, ◌&&◌, nat_lt, ℕ, zero, suc, Bool, true, false, length, not, cond, List, [], ◌∷◌, map, filter}
use Rattle.std.specs.Prelude.{Option, None, Some, if◌then◌else◌, ⊤}
use Rattle.std.specs.List.{AllByRecursion, Contains}
use Rattle.mn_wiring.specs.Wiring.{Wiring, link, is_end}
use Rattle.mn_flight.specs.declared.Item.{Item as ItemOf}
use Rattle.mn_wiring.specs.declared.links.Dir.TheVariants.{Forth, Back}
use Rattle.mn_wiring.specs.declared.links.LinkEnds.{LinkEnds}
use Rattle.mn_topo.specs.Network.{Network, wiring_of}
use Rattle.mn_topo.specs.declared.steps.Step.{Step}
use Rattle.mn_topo.specs.declared.steps.Step.TheVariants.{LinkUp, LinkDown, Learn, LdpAdmin, HearLdp, BgpUp, BgpDown, HearBgp, Carry, Lose, Tick}
use Rattle.mn_ledger.specs.Packets.{channel}
use Rattle.mn_ledger.specs.Items.{Channel, Notices, Messages, Routes, Frames, Load, Carries, Item, same_channel}

-- an item as the clock and the counter see it: its channel's number in its flight, its due tick and its own number
pub record Key : Type 0 where
  pub channel : ℕ
  pub due : ℕ
  pub number : ℕ

-- 1. What a flight holds

abbrev pub key_of : {T : Type 0} → ItemOf T → Key
key_of item = record { channel = item.channel; due = item.due; number = item.number }

abbrev pub keys_in : {T : Type 0} → List (ItemOf T) → List Key
keys_in items = map key_of items

-- 2. What the ledger's flight holds for it

-- a flight's channels: the number of each channel that is one of them
abbrev pub Numbering : Type 0
Numbering = Channel → Option ℕ

-- by link and node
abbrev pub of_notices : ℕ → Numbering
of_notices nodes (Notices l node) = Some (l * nodes + node)
of_notices nodes _ = None

-- by link and the end that says it, the end `a` first: a link's messages in a direction
abbrev pub channel_from : Wiring → ℕ → ℕ → ℕ
channel_from wiring l end = if end == (link wiring l).a.0 then 2 * l else 2 * l + 1

abbrev pub of_messages : Network → Numbering
of_messages topology (Messages l end) = Some (channel_from (wiring_of topology) l end)
of_messages topology _ = None

-- by the edge that tells and the peer
abbrev pub of_routes : ℕ → Numbering
of_routes nodes (Routes edge peer) = Some (edge * nodes + peer)
of_routes nodes _ = None

-- by link and direction
abbrev pub of_frames : Numbering
of_frames (Frames l dir) = Some (channel l dir)
of_frames _ = None

abbrev pub with_key : Option ℕ → Item → List Key → List Key
with_key None item keys = keys
with_key (Some c) item keys = record { channel = c; due = item.due; number = item.number } ∷ keys

-- the items of these channels, in the order of their numbers
abbrev pub keys_on : Numbering → List Item → List Key
keys_on number [] = []
keys_on number (item ∷ items) = with_key (number item.on) item (keys_on number items)

-- 3. What leaves

-- without the key at a place, from 0, among those on the channel
abbrev pub key_without : ℕ → ℕ → List Key → List Key
key_without c place [] = []
key_without c zero (key ∷ keys) = cond (key.channel == c) keys (key ∷ key_without c zero keys)
key_without c (suc place) (key ∷ keys) = key ∷ cond (key.channel == c) (key_without c place keys) (key_without c (suc place) keys)

-- those on channels that pass
abbrev pub keys_by : (ℕ → Bool) → List Key → List Key
keys_by test keys = filter (λ key. test key.channel) keys

abbrev pub is_number : ℕ → Option ℕ → Bool
is_number c None = false
is_number c (Some d) = d == c

-- among these items, the ledger's channel is the flight's channel of this number
abbrev pub Names : Numbering → Channel → ℕ → List Item → Type 0
Names number on c [] = ⊤
Names number on c (item ∷ items) = (same_channel on item.on ≡ is_number c (number item.on)) × Names number on c items

abbrev pub Passes : (ℕ → Bool) → Bool → Option ℕ → Type 0
Passes test goes None = ⊤
Passes test goes (Some c) = goes ≡ test c

-- of these items, those of the flight pass by their number where they pass by their channel
abbrev pub Agrees : Numbering → (Channel → Bool) → (ℕ → Bool) → List Item → Type 0
Agrees number goes test [] = ⊤
Agrees number goes test (item ∷ items) = Passes test (goes item.on) (number item.on) × Agrees number goes test items

-- 4. What leaves each flight in a step

abbrev pub but_two : ℕ → ℕ → List Key → List Key
but_two c d keys = keys_by (λ n. not (n == d)) (keys_by (λ n. not (n == c)) keys)

-- what is learned
abbrev pub notices_leave : ℕ → Step → List Key → List Key
notices_leave nodes (Learn node l) keys = key_without (l.0 * nodes + node.0) 0 keys
notices_leave nodes _ keys = keys

-- what is received, and all of a session that begins or ends
abbrev pub messages_leave : Step → List Key → List Key
messages_leave (HearLdp l dir) keys = key_without (channel l.0 dir) 0 keys
messages_leave (LinkUp l) keys = but_two (channel l.0 Forth) (channel l.0 Back) keys
messages_leave (LinkDown l) keys = but_two (channel l.0 Forth) (channel l.0 Back) keys
messages_leave (LdpAdmin l on) keys = but_two (channel l.0 Forth) (channel l.0 Back) keys
messages_leave _ keys = keys

abbrev pub routes_leave : ℕ → Step → List Key → List Key
routes_leave nodes (HearBgp a b) keys = key_without (a.0 * nodes + b.0) 0 keys
routes_leave nodes (BgpUp a b) keys = but_two (a.0 * nodes + b.0) (b.0 * nodes + a.0) keys
routes_leave nodes (BgpDown a b) keys = but_two (a.0 * nodes + b.0) (b.0 * nodes + a.0) keys
routes_leave nodes _ keys = keys

-- what is carried or lost, and all of a link
abbrev pub frames_leave : Step → List Key → List Key
frames_leave (Carry l dir place) keys = key_without (channel l.0 dir) place keys
frames_leave (Lose l dir place) keys = key_without (channel l.0 dir) place keys
frames_leave (LinkDown l) keys = but_two (channel l.0 Forth) (channel l.0 Back) keys
frames_leave _ keys = keys

-- 5. What ends as time goes on

-- the link of a channel of frames
abbrev pub link_on : Network → ℕ → LinkEnds
link_on topology c = link (wiring_of topology) (c / 2)

-- a frame that was sent longer ago than the life of its link: it is due the link's delay after it was sent
abbrev pub is_past : Network → ℕ → Key → Bool
is_past topology clock key =
    nat_lt key.channel (2 * length topology.links)
    && nat_lt (key.due + (link_on topology key.channel).life) (clock + (link_on topology key.channel).delay)

abbrev pub keys_in_time : Network → ℕ → List Key → List Key
keys_in_time topology clock keys = filter (λ key. not (is_past topology clock key)) keys

-- only a Tick lets frames grow too old
abbrev pub frames_in_time : Network → ℕ → Step → List Key → List Key
frames_in_time topology clock (Tick ticks) keys = keys_in_time topology clock keys
frames_in_time topology clock _ keys = keys

-- what flies on a link is a frame, due the link's delay after it was sent
abbrev pub IsFrameDue : Network → Channel → Load → ℕ → Type 0
IsFrameDue topology (Frames l dir) (Carries token) due = due ≡ token.sent + (link (wiring_of topology) l).delay
IsFrameDue topology (Frames l dir) load due = ⊥
IsFrameDue topology on load due = ⊤

abbrev pub AreFramesDue : Network → List Item → Type 0
AreFramesDue topology items = (item : Item) → Contains items item → IsFrameDue topology item.on item.load item.due

-- on each channel none is due before one in front of it
abbrev pub FlyInOrder : List Key → Type 0
FlyInOrder [] = ⊤
FlyInOrder (key ∷ keys) = AllByRecursion (λ other. other.channel ≡ key.channel → key.due ≤ other.due) keys × FlyInOrder keys

-- 6. Channels of the topology, among which numbers tell channels apart

abbrev pub IsThere : Network → Channel → Type 0
IsThere topology (Notices l node) = node < length topology.loopbacks
IsThere topology (Messages l end) = (l < length topology.links) × (is_end (wiring_of topology) l end ≡ true)
IsThere topology (Routes edge peer) = (edge < length topology.loopbacks) × (peer < length topology.loopbacks)
IsThere topology (Frames l dir) = ⊤

abbrev pub AreThere : Network → List Item → Type 0
AreThere topology [] = ⊤
AreThere topology (item ∷ items) = IsThere topology item.on × AreThere topology items
