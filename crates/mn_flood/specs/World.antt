-- All nodes' databases and what flies, as contracts see them.
use Rattle.std.specs.Prelude.{◌≡◌, ◌<◌, ℕ, Bool, List, [], length, slice_index_or, Option}
use Rattle.mn_wiring.specs.Wiring.{Wiring}
use Rattle.mn_flood_laws.specs.Flood.{Advert, FloodWorld}
use Rattle.mn_flood.specs.Queue.{Queued}

pub record WorldNow : Type 0 where
  pub wiring : Wiring
  pub world : FloodWorld
  pub made : ℕ  -- how many adverts were sent so far

-- the parts of a world together
abbrev pub joined : Wiring → List Bool → List (List (Option Advert)) → Queued → WorldNow
joined wiring up kept queued = record { wiring = wiring; world = record { up = up; kept = kept; flying = queued.sents }; made = queued.made }

-- of each link there is whether it is up, and of each node what it has of each
pub record IsShaped (wiring : Wiring) (world : FloodWorld) : Type 0 where
  pub links : length world.up ≡ length wiring.ends
  pub rows : length world.kept ≡ length wiring.loopbacks
  pub columns : (node : ℕ) → node < length wiring.loopbacks → length (slice_index_or world.kept node []) ≡ length wiring.loopbacks

-- the parts fit one another
pub record IsWhole (wiring : Wiring) (world : FloodWorld) (queued : Queued) : Type 0 where
  pub shaped : IsShaped wiring world
  pub same_links : queued.links ≡ length wiring.ends
