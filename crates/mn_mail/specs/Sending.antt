-- How letters stand in a flight: each on the channel of its two nodes, all of them due, and numbered in the order of sending.
use Rattle.std.specs.Prelude.{◌≡◌, ◌<◌, ◌≤◌, ℕ, ◌+◌, ◌*◌, List, map}
use Rattle.std.specs.List.{AllByRecursion}
use Rattle.mn_flight.specs.declared.Item.{Item}
use Rattle.mn_flight.specs.Flying.{IsFlight}
use Rattle.mn_mail.specs.Mail.{Letter}

-- the channel from a node to another
abbrev pub channel : ℕ → ℕ → ℕ → ℕ
channel nodes from to = from * nodes + to

abbrev pub letters_of : List (Item Letter) → List Letter
letters_of items = map (λ item. item.item) items

pub record IsInPlace (nodes sent : ℕ) (item : Item Letter) : Type 0 where
  pub channel : item.channel ≡ channel nodes item.item.from item.item.to
  pub to : item.item.to < nodes
  pub due : item.due ≡ 0
  pub number : item.number < sent

pub record IsMail (nodes sent channels : ℕ) (items : List (Item Letter)) : Type 0 where
  pub few : nodes ≤ 1024
  pub channels_are : channels ≡ nodes * nodes
  pub flight : IsFlight channels items
  pub each : AllByRecursion (IsInPlace nodes sent) items
