-- What contracts see of the packets in transit.
use Rattle.std.specs.Prelude.{◌≡◌, ◌≢◌, ◌+◌, ◌*◌, ◌^◌, ◌<◌, ◌≤◌, ℕ, List, [], ◌∷◌, length, Option}
use Rattle.std.specs.List.{All, AllPairs}
use Rattle.mn_flight.specs.declared.Item.{Item}
use Rattle.mn_flight.specs.Flying.{IsFlight}
use Rattle.mn_lfib.specs.Hop.{carried_ttl}
use Rattle.mn_stack.specs.Labelled.{Labelled}
use Rattle.mn_topo.specs.Network.{Network}
use Rattle.mn_ledger.specs.declared.verdict.Verdict.{Verdict}
use Rattle.mn_transit.specs.declared.flown.Flown.{Flown}
use Rattle.mn_paths.specs.Visits.{Visits, path_of}

pub record Moving : Type 0 where
  pub verdicts : List Verdict  -- by packet
  pub paths : List Visits  -- by packet
  pub copies : ℕ  -- how many were delivered
  pub delivered : Option (List ℕ)  -- what the last step delivered
  pub flying : List (Item Flown)  -- the frames in flight, in the order of their numbers
  pub spare : ℕ  -- how many more can fly without memory
  pub channels : ℕ  -- the directions of links: two for each

-- the bytes of the packets that fly
abbrev pub bytes_in : List (Item Flown) → ℕ
bytes_in [] = 0
bytes_in (item ∷ items) = length item.item.frame.packet + bytes_in items

-- a path with this room has memory for each node that the frame may still come to
pub record HoldsHops (room : ℕ) (frame : Labelled) : Type 0 where
  pub one : 0 < room
  pub hops : carried_ttl frame ≤ room

-- A packet of which no frame flies has a place in flight at this time: there is memory for one frame more, whose number comes
-- after all that fly.
pub record HasPlace (topology : Network) (tick number packet : ℕ) (moving : Moving) : Type 0 where
  pub channels : moving.channels ≡ 2 * length topology.links
  pub clock : tick ≤ 2 ^ 63
  pub last : All (λ item. item.number < number) moving.flying
  pub bytes : bytes_in moving.flying < 2 ^ 32
  pub room : 0 < moving.spare
  pub injected : packet < length moving.verdicts
  pub apart : All (λ other. other.item.packet ≢ packet) moving.flying

-- this frame may take its packet's place in flight
pub record MayFly (topology : Network) (tick number : ℕ) (flown : Flown) (moving : Moving) : Type 0 where
  pub place : HasPlace topology tick number flown.packet moving
  pub hops : HoldsHops (path_of moving.paths flown.packet).room flown.frame
  pub entry : 0 < length flown.frame.entries

-- Each frame in flight has an entry, and carries a packet that was injected and of which no other frame flies; the packet's path
-- has room for the frame's hops. Each packet has one verdict and one path; and so many bytes fly.
pub record IsMoving (moving : Moving) (counted : ℕ) : Type 0 where
  pub flight : IsFlight moving.channels moving.flying
  pub entries : All (λ item. 0 < length item.item.frame.entries) moving.flying
  pub injected : All (λ item. item.item.packet < length moving.verdicts) moving.flying
  pub once : AllPairs (λ earlier later. earlier.item.packet ≢ later.item.packet) moving.flying
  pub room : All (λ item. HoldsHops (path_of moving.paths item.item.packet).room item.item.frame) moving.flying
  pub paths : length moving.paths ≡ length moving.verdicts
  pub bytes : counted ≡ bytes_in moving.flying

-- What a step changes of the counts: so many packets more, no more deliveries than so many, and no more bytes in flight.
pub record CountsOn (before after : Moving) (injected delivered sent : ℕ) : Type 0 where
  pub channels : after.channels ≡ before.channels
  pub verdicts : length after.verdicts ≡ length before.verdicts + injected
  pub copies : after.copies ≤ before.copies + delivered
  pub bytes : bytes_in after.flying ≤ bytes_in before.flying + sent
