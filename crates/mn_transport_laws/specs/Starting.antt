-- A transport as it starts: no node has learned anything, and the sites get their first labels one after another.
use Rattle.std.specs.Prelude.{◌≡◌, ◌<◌, ◌==◌, ◌^◌, ℕ, false, List, [], length, filter, replicate, slice_get, Some, None}
use Rattle.std.specs.List.{range_with_len}
use Rattle.mn_wiring.specs.Wiring.{links_at}
use Rattle.mn_labels.specs.Labels.{greatest}
use Rattle.mn_lfib.specs.declared.answer.Use.TheVariants as used_for
use Rattle.mn_lfib.specs.Uses.{use_of}
use Rattle.mn_releases.specs.Rests.{at_first}
use Rattle.mn_node.specs.Machine.{fresh_node}
use Rattle.mn_topo.specs.Network.{Network, wiring_of}
use Rattle.mn_ledger.specs.Places.{home_of}
use Rattle.mn_reuse_laws.specs.Labels.{first_given, longest_life}
use Rattle.mn_frame_laws.specs.Given.{given, label_at}
use Rattle.mn_lsr.specs.Standing.{Standing, TableStands}

-- the label of a site's first attachment
abbrev pub first_label : Network → ℕ → ℕ
first_label topology site = label_at (given topology []) (home_of topology site) site 1

-- the sites of a node among the first so many, in order
abbrev pub sites_among : Network → ℕ → ℕ → List ℕ
sites_among topology count node = filter (λ site. home_of topology site == node) (range_with_len 0 count)

-- The node has learned nothing. It gave labels to its sites among the first so many, and to no FEC.
pub record IsFirst (topology : Network) (count node : ℕ) (standing : Standing) : Type 0 where
  pub wiring : standing.wiring ≡ wiring_of topology
  pub node_is : standing.node ≡ fresh_node (wiring_of topology) node
  pub labels : standing.labels ≡ record { given = first_given 16 (sites_among topology count node); fecs = replicate (length topology.loopbacks) None }
  pub in_range : greatest standing.labels.given < 2 ^ 20
  pub resting : standing.resting ≡ at_first (length topology.loopbacks) (longest_life topology (links_at (wiring_of topology) node))
  pub table : TableStands standing
  pub sites : (site : ℕ) → site < count → home_of topology site ≡ node →
      use_of standing.uses (first_label topology site) ≡ Some (used_for.Site (record { 0 = site }))
  pub works : standing.failed ≡ false

-- and so is each node
pub record AreFirst (topology : Network) (count : ℕ) (standings : List Standing) : Type 0 where
  pub each : length standings ≡ length topology.loopbacks
  pub nodes : (node : ℕ) (standing : Standing) → slice_get standings node ≡ Some standing → IsFirst topology count node standing
