-- Which nodes and links there are, by number, and which links a node takes for up.
use Rattle.std.specs.Prelude.{◌≢◌, ◌<◌, ◌≤◌, ◌==◌, ◌+◌, ◌*◌, ◌%◌, ◌||◌, ℕ, Bool, false, if◌then◌else◌, List, length, slice_index_or, filter}
use Rattle.std.specs.List.{range_with_len}
use Rattle.mn_wiring.specs.declared.links.LinkEnds.{LinkEnds}
use Rattle.mn_wiring.specs.declared.links.Dir.{Dir}
use Rattle.mn_wiring.specs.declared.links.Dir.TheVariants.{Forth, Back}

-- the loopback of each node, and the two ends of each link
pub record Wiring : Type 0 where
  pub loopbacks : List ℕ
  pub ends : List LinkEnds

-- the numbers of the nodes
abbrev pub nodes_of : Wiring → List ℕ
nodes_of wiring = range_with_len 0 (length wiring.loopbacks)

-- the numbers of the links
abbrev pub links_of : Wiring → List ℕ
links_of wiring = range_with_len 0 (length wiring.ends)

-- the ends of a link
abbrev pub link : Wiring → ℕ → LinkEnds
link wiring l = slice_index_or wiring.ends l (record { a = record { 0 = 0 }; b = record { 0 = 0 }; cost = 0; delay = 0; loss = 0; life = 0 })

-- a node is one of the link's ends
abbrev pub is_end : Wiring → ℕ → ℕ → Bool
is_end wiring l node = ((link wiring l).a.0 == node) || ((link wiring l).b.0 == node)

-- the link's other end
abbrev pub across : Wiring → ℕ → ℕ → ℕ
across wiring l node = if (link wiring l).a.0 == node then (link wiring l).b.0 else (link wiring l).a.0

-- the links at a node
abbrev pub links_at : Wiring → ℕ → List ℕ
links_at wiring node = filter (λ l. is_end wiring l node) (links_of wiring)

-- the links that join two nodes
abbrev pub joining : Wiring → ℕ → ℕ → List ℕ
joining wiring m n = filter (λ l. across wiring l m == n) (links_at wiring m)

-- the end that sends in a direction
abbrev pub sender : Wiring → ℕ → Dir → ℕ
sender wiring l Forth = (link wiring l).a.0
sender wiring l Back = (link wiring l).b.0

-- the end that receives in a direction
abbrev pub receiver : Wiring → ℕ → Dir → ℕ
receiver wiring l Forth = (link wiring l).b.0
receiver wiring l Back = (link wiring l).a.0

-- the number of a direction of a link
abbrev pub channel : ℕ → Dir → ℕ
channel l Forth = 2 * l
channel l Back = 2 * l + 1

-- the direction that has the number
abbrev pub dir_of : ℕ → Dir
dir_of c = if c % 2 == 0 then Forth else Back

-- each link joins two of the nodes
abbrev pub JoinsNodes : Wiring → Type 0
JoinsNodes wiring = (l : ℕ) → l < length wiring.ends → ((link wiring l).a.0 < length wiring.loopbacks) × ((link wiring l).b.0 < length wiring.loopbacks)

-- the two ends of each link differ
abbrev pub EndsDiffer : Wiring → Type 0
EndsDiffer wiring = (l : ℕ) → l < length wiring.ends → (link wiring l).a.0 ≢ (link wiring l).b.0

-- a pair of nodes has at most one link
abbrev pub JoinsOnce : Wiring → Type 0
JoinsOnce wiring = (m n : ℕ) → m < length wiring.loopbacks → n < length wiring.loopbacks → length (joining wiring m n) ≤ 1

-- by link, whether it is taken for up; one past the end is taken for down
abbrev pub View : Type 0
View = List Bool

abbrev pub is_up : View → ℕ → Bool
is_up view l = slice_index_or view l false
