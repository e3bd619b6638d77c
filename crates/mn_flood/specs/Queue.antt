-- Adverts that fly, in the order of sending; and how they stand in a flight: each on the channel of its link and direction, all of
-- them due, and numbered in that order.
use Rattle.std.specs.Prelude.{◌≡◌, ◌<◌, ℕ, ◌+◌, ◌*◌, List, ◌++◌, length, map}
use Rattle.std.specs.List.{AllByRecursion}
use Rattle.mn_base.specs.declared.numbers.LinkNo.{LinkNo}
use Rattle.mn_wiring.specs.declared.links.Dir.{Dir}
use Rattle.mn_wiring.specs.Wiring.{channel}
use Rattle.mn_flight.specs.declared.Item.{Item}
use Rattle.mn_flight.specs.Flying.{IsFlight}
use Rattle.mn_flood_laws.specs.Flood.{Sent}

-- over so many links, the adverts that fly, and how many were sent so far
pub record Queued : Type 0 where
  pub links : ℕ
  pub sents : List Sent
  pub made : ℕ

-- these were sent besides
abbrev pub with_sents : Queued → List Sent → Queued
with_sents queued more = record queued { sents = queued.sents ++ more; made = queued.made + length more }

-- on which link and in which direction an advert flies
abbrev pub way_of : Sent → LinkNo × Dir
way_of sent = (record { 0 = sent.link }, sent.dir)

-- what flies, from the items of a flight
abbrev pub sents_of : List (Item Sent) → List Sent
sents_of items = map (λ item. item.item) items

pub record IsInPlace (made : ℕ) (item : Item Sent) : Type 0 where
  pub channel : item.channel ≡ channel item.item.link item.item.dir
  pub due : item.due ≡ 0
  pub number : item.number < made

-- the flight of so many links, after so many adverts were sent
pub record IsSending (links made : ℕ) (items : List (Item Sent)) : Type 0 where
  pub flight : IsFlight (2 * links) items
  pub each : AllByRecursion (IsInPlace made) items
