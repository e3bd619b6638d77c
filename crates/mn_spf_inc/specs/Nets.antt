-- Which links are up, as mn_spf's definitions see it: as counts of their changes.
use Rattle.std.specs.Prelude.{ℕ, ◌≡◌, Bool, true, false, List, length, map, replicate, slice_set}
use Rattle.mn_wiring.specs.declared.links.LinkEnds.{LinkEnds}
use Rattle.mn_base.specs.declared.numbers.LinkNo.{LinkNo}
use Rattle.mn_linkdb.specs.Network.{IsNetwork}
use Rattle.mn_linkdb.specs.Learned.{Learned}
use Rattle.mn_spf.specs.Ways.{AreLinks}

-- a link that is up was changed once
abbrev pub one_if : Bool → ℕ
one_if true = 1
one_if false = 0

abbrev pub seen_as : ℕ → List LinkEnds → List Bool → Learned
seen_as nodes ends up = record { nodes = nodes; ends = ends; counts = map one_if up }

abbrev pub all_up : ℕ → List LinkEnds → Learned
all_up nodes ends = record { nodes = nodes; ends = ends; counts = replicate (length ends) 1 }

abbrev pub all_down : ℕ → List LinkEnds → Learned
all_down nodes ends = record { nodes = nodes; ends = ends; counts = replicate (length ends) 0 }

-- one link is made up or down
abbrev pub with_link : Learned → ℕ → Bool → Learned
with_link learned l up = record learned { counts = slice_set learned.counts l (one_if up) }

-- the lists by node are those of all links
pub record IsNet (ends : List LinkEnds) (up : List Bool) (lists : List (List LinkNo)) : Type 0 where
  pub network : IsNetwork (length lists) ends
  pub one_each : length up ≡ length ends
  pub at : AreLinks (all_up (length lists) ends) lists

-- the lists by node are those of all links of a network
pub record AreByNode (ends : List LinkEnds) (lists : List (List LinkNo)) : Type 0 where
  pub network : IsNetwork (length lists) ends
  pub at : AreLinks (all_up (length lists) ends) lists
