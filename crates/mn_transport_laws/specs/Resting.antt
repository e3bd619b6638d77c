-- What a node counts of the Releases that its neighbours owe, and since when its FECs are at rest: RFC 5036, sections 3.5.10 and
-- 3.5.11.
use Rattle.std.specs.Prelude.{◌≡◌, ◌≢◌, ◌<◌, ◌+◌, ℕ, Bool, true, false, List, length, slice_index_or, Option, None, Some}
use Rattle.mn_wiring.specs.Wiring.{is_end, across, links_at}
use Rattle.mn_releases.specs.Rests.{Resting, row_of}
use Rattle.mn_topo.specs.Network.{Network, wiring_of}
use Rattle.mn_ledger.specs.World.{World}
use Rattle.mn_settled_laws.specs.Offers.{is_operational_on}
use Rattle.mn_reuse_laws.specs.Answers.{withdraws, releases}
use Rattle.mn_reuse_laws.specs.Labels.{longest_life}

-- by FEC, the Withdraws that the node sent on the link without having received their Releases
pub record IsRow (topology : Network) (world : World) (node l : ℕ) (row : List ℕ) : Type 0 where
  pub each : length row ≡ length topology.loopbacks
  pub counts : (fec : ℕ) → fec < length topology.loopbacks → slice_index_or row fec 0 + releases topology world l node fec ≡ withdraws world l node fec

-- they are counted where the node is OPERATIONAL, and nowhere else
abbrev pub HasRow : Network → World → ℕ → ℕ → Bool → Option (List ℕ) → Type 0
HasRow topology world node l true counted = (row : List ℕ) × (counted ≡ Some row) × IsRow topology world node l row
HasRow topology world node l false counted = counted ≡ None

-- by neighbour these rows, and by FEC the tick of the last step that laid it to rest
pub record IsResting (topology : Network) (world : World) (rested : ℕ → ℕ) (node : ℕ) (resting : Resting) : Type 0 where
  pub neighbours : length resting.owed ≡ length topology.loopbacks
  pub fecs : length resting.rested ≡ length topology.loopbacks
  pub rows : (l : ℕ) → l < length topology.links → is_end (wiring_of topology) l node ≡ true →
      HasRow topology world node l (is_operational_on topology world node l) (row_of resting (across (wiring_of topology) l node))
  pub strangers : (other : ℕ) →
      ((l : ℕ) → l < length topology.links → is_end (wiring_of topology) l node ≡ true → across (wiring_of topology) l node ≢ other) →
      row_of resting other ≡ None
  pub rested_is : (fec : ℕ) → fec < length topology.loopbacks → slice_index_or resting.rested fec 0 ≡ rested fec
  pub life : resting.life ≡ longest_life topology (links_at (wiring_of topology) node)
