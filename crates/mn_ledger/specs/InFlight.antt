-- What flies: of what was made for each channel, what wasn't learned, received or carried yet.
use Rattle.std.specs.Prelude.{◌≡◌, ◌≢◌, ◌<◌, ◌+◌, ℕ, Bool, true, false, List, ◌++◌, map, drop, length, slice_get, Some}
use Rattle.std.specs.List.{Contains}
use Rattle.mn_topo.specs.Wiring.{is_end, across}
use Rattle.mn_topo.specs.Dir.{Dir}
use Rattle.mn_topo.specs.Network.{Network, wiring_of}
use Rattle.mn_ledger.specs.World.{World}
use Rattle.mn_ledger.specs.Packets.{Packets, flying_on}
use Rattle.mn_ledger.specs.Items.{Channel, Notices, Messages, Routes, Frames, Item, Says, Tells, Carries, Flight, items_on, loads_on}

-- a channel that hands over what is on it in the order of making; a frame may overtake another
abbrev pub is_in_order : Channel → Bool
is_in_order (Frames l dir) = false
is_in_order _ = true

-- some of the items are gone, and these, made after them, are left
abbrev pub AreLastOf : List Item → List Item → Type 0
AreLastOf left items = (gone : List Item) × (items ≡ gone ++ left)

-- each item's number is how many items were made before it
abbrev pub AreNumbered : List Item → Type 0
AreNumbered items = (place : ℕ) (item : Item) → slice_get items place ≡ Some item → item.number ≡ place

-- what flies among the items that were made, each with its number and due tick: in each channel but those of frames it is the
-- last that was made for it; a notice for each change that the node hasn't learned, the messages that the other end hasn't
-- received, and the packets that fly on the link
pub record IsInFlight (topology : Network) (world : World) (packets : Packets) (made : List Item) (flight : Flight) : Type 0 where
  pub counted : flight.made ≡ length made
  pub numbers : AreNumbered made
  pub among : (item : Item) → Contains flight.items item → Contains made item
  pub order : (on : Channel) → is_in_order on ≡ true → AreLastOf (items_on on flight.items) (items_on on made)
  pub notices : (l node : ℕ) → node < length topology.loopbacks →
      world.views.learned node l + length (loads_on (Notices l node) flight.items) ≡ world.views.changes l
  pub messages : (l node : ℕ) → l < length topology.links → is_end (wiring_of topology) l node ≡ true
      → loads_on (Messages l node) flight.items ≡ map (λ message. Says message)
      (drop (world.sessions.heard l (across (wiring_of topology) l node)) (world.sessions.said l node))
  pub routes : (edge peer : ℕ) → edge ≢ peer
      → loads_on (Routes edge peer) flight.items ≡ map (λ telling. Tells telling) (drop (world.peerings.heard peer edge) (world.peerings.told edge peer))
  pub frames : (l : ℕ) (dir : Dir) → loads_on (Frames l dir) flight.items ≡ map (λ token. Carries token) (flying_on packets l dir)
