-- How Withdraws are answered: RFC 5036, sections 3.5.7, 3.5.10 and 3.5.11.
use Rattle.std.specs.Prelude.{◌≡◌, ◌<◌, ℕ, ◌+◌, ◌==◌, Bool, true, false, List, [], ◌∷◌, take, drop, filter, length, ⊤}
use Rattle.mn_wiring.specs.Wiring.{is_end, across}
use Rattle.mn_topo.specs.Network.{Network, wiring_of}
use Rattle.mn_ledger.specs.World.{World, Message, Mapping, Withdraw, Release}
use Rattle.mn_ledger.specs.Transport.{is_mapped, mapped_after}
use Rattle.mn_settled_laws.specs.Offers.{is_operational_on, offers_in, has_mapped}

-- 1. Messages of a FEC

abbrev pub is_withdraw : ℕ → Message → Bool
is_withdraw fec (Withdraw other) = fec == other
is_withdraw fec _ = false

abbrev pub is_release : ℕ → Message → Bool
is_release fec (Release other) = fec == other
is_release fec _ = false

abbrev pub is_mention : ℕ → Message → Bool
is_mention fec (Mapping other) = fec == other
is_mention fec (Withdraw other) = fec == other
is_mention fec _ = false

abbrev pub count_by : (Message → Bool) → List Message → ℕ
count_by test messages = length (filter test messages)

-- a Mapping comes where none stands, and a Withdraw where one does
abbrev pub HasItsTurn : Bool → ℕ → Message → Type 0
HasItsTurn mapped fec (Mapping other) = (fec == other) ≡ true → mapped ≡ false
HasItsTurn mapped fec (Withdraw other) = (fec == other) ≡ true → mapped ≡ true
HasItsTurn mapped fec _ = ⊤

abbrev pub AreByTurns : Bool → ℕ → List Message → Type 0
AreByTurns mapped fec [] = ⊤
AreByTurns mapped fec (message ∷ messages) = HasItsTurn mapped fec message × AreByTurns (mapped_after mapped fec message) fec messages

-- 2. In the present life of a link's session, by an end: what it sent, what the other end has received from it, and what is in flight

abbrev pub said_to : World → ℕ → ℕ → List Message
said_to world l node = world.sessions.said l node

abbrev pub heard_from : Network → World → ℕ → ℕ → List Message
heard_from topology world l node = take (world.sessions.heard l (across (wiring_of topology) l node)) (world.sessions.said l node)

abbrev pub flying_from : Network → World → ℕ → ℕ → List Message
flying_from topology world l node = drop (world.sessions.heard l (across (wiring_of topology) l node)) (world.sessions.said l node)

-- the Withdraws of a FEC that it sent, and those of its Releases that it received
abbrev pub withdraws : World → ℕ → ℕ → ℕ → ℕ
withdraws world l node fec = count_by (is_withdraw fec) (world.sessions.said l node)

abbrev pub releases : Network → World → ℕ → ℕ → ℕ → ℕ
releases topology world l node fec =
    count_by (is_release fec) (take (world.sessions.heard l node) (world.sessions.said l (across (wiring_of topology) l node)))

-- 3. The law of answers, of an end of a link and a FEC

pub record IsAnswered (topology : Network) (world : World) (l node fec : ℕ) : Type 0 where
  -- mentions come by turns, a Mapping first
  pub by_turns : AreByTurns false fec (said_to world l node)
  -- where the end is OPERATIONAL the last one is a Mapping exactly where the node offers the FEC
  pub last : is_operational_on topology world node l ≡ true → has_mapped world l node fec ≡ offers_in topology world node fec
  -- each Withdraw is in flight, or its Release is, or that was received
  pub counted : withdraws world l node fec
      ≡ count_by (is_withdraw fec) (flying_from topology world l node)
      + (count_by (is_release fec) (flying_from topology world l (across (wiring_of topology) l node)) + releases topology world l node fec)
  -- and where all were received for a FEC that isn't offered, the other end keeps no label of it, and no mention and no Release of it flies
  pub forgotten : offers_in topology world node fec ≡ false → withdraws world l node fec ≡ releases topology world l node fec →
      (is_mapped false fec (heard_from topology world l node) ≡ false) × (count_by (is_mention fec) (flying_from topology world l node) ≡ 0)
      × (count_by (is_release fec) (flying_from topology world l (across (wiring_of topology) l node)) ≡ 0)

abbrev pub AreAnswered : Network → World → Type 0
AreAnswered topology world =
    (l node fec : ℕ) → l < length topology.links → is_end (wiring_of topology) l node ≡ true → fec < length topology.loopbacks →
    IsAnswered topology world l node fec
