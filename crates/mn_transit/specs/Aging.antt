-- Which of the frames in flight end as time goes on.
use Rattle.std.specs.Prelude.{◌≡◌, ◌+◌, ◌-◌, ◌<◌, ◌==◌, ◌&&◌, nat_lt, ℕ, Bool, cond, List, [], ◌∷◌, map, length, Option, None, Some}
use Rattle.mn_wiring.specs.Wiring.{link}
use Rattle.mn_wiring.specs.declared.links.Dir.{Dir}
use Rattle.mn_flight.specs.declared.Item.{Item}
use Rattle.mn_flight.specs.Flying.{on_channel}
use Rattle.mn_topo.specs.Network.{Network, wiring_of}
use Rattle.mn_ledger.specs.Packets.{Packets, channel, flying_on}
use Rattle.mn_timetable_laws.specs.Keys.{Key, is_past}
use Rattle.mn_transit.specs.declared.flown.Flown.{Flown}

-- On each link of the topology the frames in flight are due, in order, its delay after their packets were sent there.
abbrev pub DueAsSent : Network → List (Item Flown) → Packets → Type 0
DueAsSent topology flying packets =
    (l : ℕ) (dir : Dir) → l < length topology.links
    → map (λ item. item.due) (on_channel (channel l dir) flying) ≡ map (λ token. token.sent + (link (wiring_of topology) l).delay) (flying_on packets l dir)

-- at this clock, the tick before which a frame is due that was sent on the link longer ago than the link's life
abbrev pub limit_on : Network → ℕ → ℕ → ℕ
limit_on topology clock l = (clock + (link (wiring_of topology) l).delay) - (link (wiring_of topology) l).life

-- the first frame, where it is due before a tick
abbrev pub first_before : ℕ → List (Item Flown) → Option (Item Flown)
first_before limit [] = None
first_before limit (item ∷ items) = cond (nat_lt item.due limit) (Some item) None

-- on this channel, a frame that was sent longer ago than the life of its link
abbrev pub ends_on : Network → ℕ → ℕ → Key → Bool
ends_on topology clock c key = (key.channel == c) && is_past topology clock key
