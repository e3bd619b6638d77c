-- The links of a network, and the lists of those at each node.
use Rattle.std.specs.Prelude.{◌≡◌, ◌<◌, ℕ, List, [], map, length, slice_index_or}
use Rattle.mn_base.specs.declared.numbers.LinkNo.{LinkNo}
use Rattle.mn_wiring.specs.Wiring.{Wiring, links_at, JoinsNodes, EndsDiffer}
use Rattle.mn_linkdb.specs.Network.{IsNetwork}

abbrev pub numbers_of : List LinkNo → List ℕ
numbers_of links = map (λ l. l.0) links

-- at most 256 nodes and 1,024 links, each of a cost that counts and between two different nodes
pub record IsWired (wiring : Wiring) : Type 0 where
  pub network : IsNetwork (length wiring.loopbacks) wiring.ends
  pub joins : JoinsNodes wiring
  pub differ : EndsDiffer wiring

-- of each node there is the list of its links
pub record AreLinks (wiring : Wiring) (lists : List (List LinkNo)) : Type 0 where
  pub wired : IsWired wiring
  pub one_each : length lists ≡ length wiring.loopbacks
  pub at : (node : ℕ) → node < length wiring.loopbacks → numbers_of (slice_index_or lists node []) ≡ links_at wiring node
