-- Which of the ledger's packets the packets in transit stand for.
use Rattle.std.specs.Prelude.{◌≡◌, ◌+◌, ℕ, Bool, true, false, List, [], ◌∷◌, ◌++◌, map, ⊤}
use Rattle.std.specs.List.{Contains}
use Rattle.mn_wiring.specs.Wiring.{link, receiver}
use Rattle.mn_wiring.specs.declared.links.Dir.{Dir}
use Rattle.mn_flight.specs.declared.Item.{Item}
use Rattle.mn_flight.specs.Flying.{on_channel}
use Rattle.mn_topo.specs.Network.{Network, wiring_of}
use Rattle.mn_ledger.specs.Packets.{Token, Packets, channel, flying_on}
use Rattle.mn_frame_laws.specs.Given.{Labelling}
use Rattle.mn_frame_laws.specs.Frames.{IsFrameOf, IsSound}
use Rattle.mn_frame_laws.specs.Laws.{KeepsBoth}
use Rattle.mn_transit.specs.declared.flown.Flown.{Flown}
use Rattle.mn_transit.specs.Moving.{Moving}

-- what flies to the node is the frame of this packet
pub record IsFlown (topology : Network) (given : Labelling) (to : ℕ) (flown : Flown) (token : Token) : Type 0 where
  pub packet : flown.packet ≡ token.packet
  pub sound : IsSound topology given token
  pub frame : IsFrameOf given token to flown.frame

-- one after another, these are the frames of these packets
abbrev pub AreFlown : Network → Labelling → ℕ → List (Item Flown) → List Token → Type 0
AreFlown topology given to [] [] = ⊤
AreFlown topology given to (item ∷ items) (token ∷ tokens) = IsFlown topology given to item.item token × AreFlown topology given to items tokens
AreFlown topology given to [] (token ∷ tokens) = ⊥
AreFlown topology given to (item ∷ items) [] = ⊥

-- The ledger's verdicts, paths and deliveries, and in each direction of a link the frames of the ledger's packets there, in
-- the same order.
pub record StandsFor (topology : Network) (given : Labelling) (moving : Moving) (packets : Packets) : Type 0 where
  pub verdicts : moving.verdicts ≡ packets.verdicts
  pub paths : map (λ path. map (λ node. node.0) path.nodes) moving.paths ≡ packets.paths
  pub copies : moving.copies ≡ packets.copies
  pub delivered : moving.delivered ≡ packets.delivered
  pub frames : (l : ℕ) (dir : Dir) →
      AreFlown topology given (receiver (wiring_of topology) l dir) (on_channel (channel l dir) moving.flying) (flying_on packets l dir)

-- each packet on its way keeps both labels of its frame
abbrev pub AllAreKept : Network → Labelling → Labelling → Packets → Type 0
AllAreKept topology earlier later packets = (l : ℕ) (dir : Dir) (token : Token) → Contains (flying_on packets l dir) token →
    KeepsBoth earlier later token (receiver (wiring_of topology) l dir)

-- What a step makes: nothing, or one frame, the last in flight, with this number and due when it has crossed its link.
abbrev pub Makes : Network → ℕ → ℕ → List (Item Flown) → List (Item Flown) → Bool → Type 0
Makes topology tick number before after false = after ≡ before
Makes topology tick number before after true =
    (l : ℕ) × (dir : Dir) × (flown : Flown) × (after ≡ before ++ record {
      channel = channel l dir;
      due = tick + (link (wiring_of topology) l).delay;
      number =
          number;
      item = flown;
    } ∷ [])
