-- What holds of every flood, whatever links change and whatever order adverts are received in.
use Rattle.std.specs.Prelude.{slice_index_or, ◌≡◌, ◌<◌, ◌≤◌, ◌⊎◌, ℕ, true, List, [], length, Option, Some}
use Rattle.std.specs.List.{Contains, AllByRecursion}
use Rattle.mn_wiring.specs.Wiring.{Wiring, is_up, sender, receiver}
use Rattle.mn_wiring.specs.declared.links.Dir.{Dir}
use Rattle.mn_linkdb.specs.PathTable.{PathTable}
use Rattle.mn_linkdb.specs.Trees.{IsTree}
use Rattle.mn_flood_laws.specs.Flood.{Advert, Sent, FloodWorld, FloodEvent, Change, Hear, has, age, up_at, flooded}

-- an advert of the origin that is as new flies in the direction
pub record FliesAsNew (world : FloodWorld) (on : ℕ) (towards : Dir) (of least : ℕ) : Type 0 where
  pub sent : Sent
  pub flies : Contains world.flying sent
  pub link : sent.link ≡ on
  pub dir : sent.dir ≡ towards
  pub origin : sent.advert.origin ≡ of
  pub new : least ≤ age (Some sent.advert)

-- over each link that is up, for each origin, the far end has as great a number, or one is in flight to it
abbrev pub ReachesTheFarEnd : Wiring → FloodWorld → Type 0
ReachesTheFarEnd wiring world =
    (l : ℕ) (dir : Dir) (origin : ℕ) → l < length wiring.ends → is_up world.up l ≡ true → origin < length wiring.loopbacks →
    (age (has world (sender wiring l dir) origin) ≤ age (has world (receiver wiring l dir) origin))
    ⊎ FliesAsNew world l dir origin (age (has world (sender wiring l dir) origin))

-- where none flies, the trees over the links that a node takes for up are those over the links that are up
abbrev pub KnowsTheTrees : Wiring → FloodWorld → Type 0
KnowsTheTrees wiring world =
    (node : ℕ) (table : PathTable) → node < length wiring.loopbacks → IsTree wiring (flooded wiring world node) node table → IsTree wiring world.up node table

-- the event is of a link of the wiring
abbrev pub is_of : ℕ → FloodEvent → Type 0
is_of count (Change l up) = l < count
is_of count (Hear l dir) = l < count

abbrev pub AreEvents : Wiring → List FloodEvent → Type 0
AreEvents wiring events = AllByRecursion (is_of (length wiring.ends)) events

-- an advert is no newer than what its origin has sent, and where it is as new it is that
pub record IsCopy (own : Option Advert) (advert : Advert) : Type 0 where
  pub no_newer : age (Some advert) ≤ age own
  pub same : age (Some advert) ≡ age own → own ≡ Some advert

-- each node has an advert of its own, of its links that are up
pub record HasItsOwn (wiring : Wiring) (world : FloodWorld) (node : ℕ) : Type 0 where
  pub advert : Advert
  pub kept : has world node node ≡ Some advert
  pub links : advert.links ≡ up_at wiring world.up node

-- what flies does so on a link that is up, and its sender has as new an advert
pub record IsOnItsWay (wiring : Wiring) (world : FloodWorld) (sent : Sent) : Type 0 where
  pub link : sent.link < length wiring.ends
  pub up : is_up world.up sent.link ≡ true
  pub origin : sent.advert.origin < length wiring.loopbacks
  pub copy : IsCopy (has world sent.advert.origin sent.advert.origin) sent.advert
  pub sender : age (Some sent.advert) ≤ age (has world (sender wiring sent.link sent.dir) sent.advert.origin)

-- what holds of every flood
pub record IsFlood (wiring : Wiring) (world : FloodWorld) : Type 0 where
  pub links : length world.up ≡ length wiring.ends
  pub rows : length world.kept ≡ length wiring.loopbacks
  pub columns : (node : ℕ) → node < length wiring.loopbacks → length (slice_index_or world.kept node []) ≡ length wiring.loopbacks
  pub own : (node : ℕ) → node < length wiring.loopbacks → HasItsOwn wiring world node
  pub named : (node origin : ℕ) (advert : Advert) → node < length wiring.loopbacks → origin < length wiring.loopbacks → has world node origin ≡ Some advert →
      advert.origin ≡ origin
  pub copies : (node origin : ℕ) (advert : Advert) → node < length wiring.loopbacks → origin < length wiring.loopbacks → has world node origin ≡ Some advert →
      IsCopy (has world origin origin) advert
  pub flights : (sent : Sent) → Contains world.flying sent → IsOnItsWay wiring world sent
  pub reaches : ReachesTheFarEnd wiring world
