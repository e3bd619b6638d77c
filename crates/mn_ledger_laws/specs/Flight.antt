-- What is in flight: its numbers and ticks, its channels, the steps that deliver it, and how much of it counts against a full network.
use Rattle.std.specs.Prelude.{◌≡◌, ◌≢◌, ◌<◌, ◌≤◌, ℕ, suc, ◌+◌, Bool, true, false, not, nat_le, List, [], ◌∷◌, map, filter, length, sum, ⊤}
use Rattle.std.specs.List.{Contains, AllByRecursion}
use Rattle.mn_base.specs.Limits.{most_steps}
use Rattle.mn_wiring.specs.declared.links.Dir.{Dir}
use Rattle.mn_base.specs.declared.numbers.LinkNo.{LinkNo}
use Rattle.mn_wiring.specs.Wiring.{is_end}
use Rattle.mn_ipv4.specs.Header.{total_length}
use Rattle.mn_topo.specs.Network.{Network, wiring_of}
use Rattle.mn_topo.specs.Steps.{fits}
use Rattle.mn_topo.specs.VrfTable.{is_edge}
use Rattle.mn_topo.specs.declared.steps.Step.{Step}
use Rattle.mn_topo.specs.declared.steps.Step.TheVariants.{Learn, HearLdp, HearBgp, Carry, Lose}
use Rattle.mn_topo.specs.declared.steps.JournalEntry.{JournalEntry}
use Rattle.mn_ledger.specs.declared.refused.Refused.TheVariants.{TooManySteps}
use Rattle.mn_ledger.specs.Ledger.{world_of, packets_of}
use Rattle.mn_ledger.specs.Packets.{away_from}
use Rattle.mn_ledger.specs.Refusal.{refusal, where_holds, in_flight, bytes_flying}
use Rattle.mn_ledger.specs.Items.{Channel, Notices, Messages, Routes, Frames, Load, Notice, Says, Tells, Carries, Item, items_on, delay_on, flight_of}

-- 1. Numbers and ticks

-- each item's number is greater than that of the item before it: from the one number on, and below the other
abbrev pub AreAscending : ℕ → ℕ → List Item → Type 0
AreAscending low high [] = low ≤ high
AreAscending low high (item ∷ items) = (low ≤ item.number) × AreAscending (suc item.number) high items

-- no item was made after one that stands behind it: it was made its channel's delay before it is due
abbrev pub AreMadeInOrder : Network → List Item → Type 0
AreMadeInOrder topology [] = ⊤
AreMadeInOrder topology (item ∷ items) = AllByRecursion (λ other. item.due + delay_on topology other.on ≤ other.due + delay_on topology item.on) items
    × AreMadeInOrder topology items

-- a frame is due its link's delay after it was sent on the link
abbrev pub IsDueAsSent : Network → Channel → Load → ℕ → Type 0
IsDueAsSent topology on (Carries token) due = due ≡ token.sent + delay_on topology on
IsDueAsSent topology on _ due = ⊤

-- 2. Channels

-- the channel is one of the network: from a link to a node, from an end of a link, from an edge to another, or over a link in a
-- direction; and the load is of its kind
abbrev pub IsOfChannel : Network → Channel → Load → Type 0
IsOfChannel topology (Notices l node) Notice = (l < length topology.links) × (node < length topology.loopbacks)
IsOfChannel topology (Messages l end) (Says message) = (l < length topology.links) × (is_end (wiring_of topology) l end ≡ true)
IsOfChannel topology (Routes edge peer) (Tells telling) = (is_edge topology.vrfs edge ≡ true) × (is_edge topology.vrfs peer ≡ true) × (edge ≢ peer)
IsOfChannel topology (Frames l dir) (Carries token) = l < length topology.links
IsOfChannel topology _ _ = ⊥

-- 3. Deliveries

-- the step that delivers the item at a place, from 0, among those on the channel; of notices and messages it is the first
abbrev pub delivering : Network → Channel → ℕ → Step
delivering topology (Notices l node) place = Learn (record { 0 = node }) (record { 0 = l })
delivering topology (Messages l end) place = HearLdp (record { 0 = l }) (away_from topology l end)
delivering topology (Routes edge peer) place = HearBgp (record { 0 = edge }) (record { 0 = peer })
delivering topology (Frames l dir) place = Carry (record { 0 = l }) dir place

-- the step fits the topology, and nothing refuses it but a full journal
pub record IsOpen (topology : Network) (entries : List JournalEntry) (inputs : List (List ℕ)) (step : Step) : Type 0 where
  pub fitting : fits topology step ≡ true
  pub refused : refusal topology entries inputs step [] ≡ where_holds (nat_le most_steps (length entries)) TooManySteps

-- 4. Counts

abbrev pub is_frame : Channel → Bool
is_frame (Frames l dir) = true
is_frame _ = false

-- the total length of a packet; what is no frame counts nothing
abbrev pub frame_length : Load → ℕ
frame_length (Carries token) = total_length token.bytes
frame_length _ = 0

-- 5. After every lawful journal

pub record FliesAsCounted (topology : Network) (entries : List JournalEntry) (inputs : List (List ℕ)) : Type 0 where
  pub ascending : AreAscending 0 (flight_of topology entries inputs).made (flight_of topology entries inputs).items
  pub in_order : AreMadeInOrder topology (flight_of topology entries inputs).items
  pub due : (item : Item) → Contains (flight_of topology entries inputs).items item → IsDueAsSent topology item.on item.load item.due
  pub channels : (item : Item) → Contains (flight_of topology entries inputs).items item → IsOfChannel topology item.on item.load
  pub delivered : (on : Channel) (place : ℕ) → place < length (items_on on (flight_of topology entries inputs).items)
      → IsOpen topology entries inputs (delivering topology on place)
  pub lost : (l : LinkNo) (dir : Dir) (place : ℕ) → place < length (items_on (Frames l.0 dir) (flight_of topology entries inputs).items)
      → IsOpen topology entries inputs (Lose l dir place)
  pub counted : length (filter (λ item. not (is_frame item.on)) (flight_of topology entries inputs).items) ≡ in_flight topology (world_of topology entries)
  pub bytes : sum (map (λ item. frame_length item.load) (flight_of topology entries inputs).items) ≡ bytes_flying topology (packets_of topology entries inputs)
