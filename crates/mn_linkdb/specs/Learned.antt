-- What a node has learned of the links.
use Rattle.std.specs.Prelude.{ℕ, ◌≡◌, List, length, map, slice_index, slice_set, ◌+◌}
use Rattle.mn_wiring.specs.declared.links.LinkEnds.{LinkEnds}
use Rattle.mn_wiring.specs.Wiring.{Wiring, View}
use Rattle.mn_linkdb.specs.Changes.{is_odd}
use Rattle.mn_linkdb.specs.Network.{IsNetwork}

-- the network, and by link how many of its changes the node has learned
pub record Learned : Type 0 where
  pub nodes : ℕ
  pub ends : List LinkEnds
  pub counts : List ℕ

-- by link, whether it is up in the node's view: an odd number of its changes is learned
abbrev pub links_up : Learned → View
links_up learned = map is_odd learned.counts

-- one more change of a link is learned
abbrev pub after_learn : Learned → ℕ → Learned
after_learn learned l = record learned { counts = slice_set learned.counts l (slice_index learned.counts l + 1) }

-- each view is of a network, and counts the changes of each of its links
pub record IsView (learned : Learned) : Type 0 where
  pub network : IsNetwork learned.nodes learned.ends
  pub one_each : length learned.counts ≡ length learned.ends

-- the view's nodes and links are these, whatever the loopbacks
pub record IsOf (wiring : Wiring) (learned : Learned) : Type 0 where
  pub nodes : length wiring.loopbacks ≡ learned.nodes
  pub ends : wiring.ends ≡ learned.ends
