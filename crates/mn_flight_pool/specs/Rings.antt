-- Nodes in rings: which node follows which, and what linking and unlinking does.
use Rattle.std.specs.Prelude.{◌≡◌, ◌⊎◌, ℕ, zero, suc, Bool, true, false, List, [], ◌∷◌, ◌++◌, length, Option, None, Some, IsSome}
use Rattle.mn_flight.specs.declared.Item.{Item}
use Rattle.std.specs.List.{AllByRecursion, IsDistinct}
use Rattle.mn_flight_pool.specs.Cells.{same_place, value_at}
use Rattle.mn_flight_pool.specs.declared.node.Pair.{Pair}
use Rattle.mn_flight_pool.specs.declared.node.Pair.TheVariants.{Channel, Due}
use Rattle.mn_flight_pool.specs.declared.node.Link.{Link}
use Rattle.mn_flight_pool.specs.Nodes.{Links, Node, nowhere}

-- 1. Neighbours
-- the pointers from each node of the first list lead to the one at its place in the second, and back
abbrev pub AreNeighbours : (ℕ → ℕ) → (ℕ → ℕ) → List ℕ → List ℕ → Type 0
AreNeighbours next prev [] [] = Unit {0}
AreNeighbours next prev [] (q ∷ qs) = ⊥
AreNeighbours next prev (p ∷ ps) [] = ⊥
AreNeighbours next prev (p ∷ ps) (q ∷ qs) = (next p ≡ q) × (prev q ≡ p) × AreNeighbours next prev ps qs

-- a node of the list lies at p
abbrev pub IsIn : ℕ → List ℕ → Type 0
IsIn p [] = ⊥
IsIn p (q ∷ qs) = (p ≡ q) ⊎ IsIn p qs

-- no node of the list lies at p
abbrev pub IsFree : ℕ → List ℕ → Type 0
IsFree p ps = AllByRecursion (λ q. same_place p q ≡ false) ps

abbrev pub link_in : Pair → Links → Link
link_in Channel links = links.channel
link_in Due links = links.due

abbrev pub with_link_in : Pair → Link → Links → Links
with_link_in Channel link links = record links { channel = link }
with_link_in Due link links = record links { due = link }

module _ {T : Type 0} where
  abbrev pub link_of : Pair → Node T → Link
  link_of pair node = link_in pair node.links

  abbrev pub with_link : Pair → Link → Node T → Node T
  with_link pair link node = record node { links = with_link_in pair link node.links }

  abbrev pub next_in : Pair → Option (Node T) → ℕ
  next_in pair None = 0
  next_in pair (Some node) = (link_of pair node).next.index

  abbrev pub prev_in : Pair → Option (Node T) → ℕ
  prev_in pair None = 0
  prev_in pair (Some node) = (link_of pair node).prev.index

  -- the node after the one at p
  abbrev pub next_of : Pair → List (Node T) → ℕ → ℕ
  next_of pair cells p = next_in pair (value_at p cells)

  -- the node before the one at p
  abbrev pub prev_of : Pair → List (Node T) → ℕ → ℕ
  prev_of pair cells p = prev_in pair (value_at p cells)

  -- the neighbours of the node at p
  abbrev pub link_seen : Pair → Option (Node T) → Link
  link_seen pair None = nowhere
  link_seen pair (Some node) = link_of pair node

  abbrev pub link_at : Pair → List (Node T) → ℕ → Link
  link_at pair cells p = link_seen pair (value_at p cells)

  -- 2. Changes
  -- the node at p is changed by f
  abbrev pub change_at : ℕ → (Node T → Node T) → List (Node T) → List (Node T)
  change_at p f [] = []
  change_at zero f (node ∷ nodes) = f node ∷ nodes
  change_at (suc p) f (node ∷ nodes) = node ∷ change_at p f nodes

  abbrev pub set_next : Pair → ℕ → ℕ → List (Node T) → List (Node T)
  set_next pair p q = change_at p (λ node. with_link pair (record (link_of pair node) { next = record { index = q } }) node)

  abbrev pub set_prev : Pair → ℕ → ℕ → List (Node T) → List (Node T)
  set_prev pair p q = change_at p (λ node. with_link pair (record (link_of pair node) { prev = record { index = q } }) node)

  -- the node at p stands between a and the one that followed it
  abbrev pub link_behind : Pair → ℕ → ℕ → List (Node T) → List (Node T)
  link_behind pair p a cells = let b = next_of pair cells a in set_prev pair b p (set_next pair a p (set_prev pair p a (set_next pair p b cells)))

  -- the neighbours of the node at p follow each other
  abbrev pub unlink : Pair → ℕ → List (Node T) → List (Node T)
  unlink pair p cells = let a = prev_of pair cells p in let b = next_of pair cells p in set_prev pair b a (set_next pair a b cells)

  -- the node at p is its own neighbour
  abbrev pub lone : Pair → ℕ → List (Node T) → List (Node T)
  lone pair p cells = set_prev pair p p (set_next pair p p cells)

  -- the item in the node at p
  abbrev pub item_in : Option (Node T) → Option (Item T)
  item_in None = None
  item_in (Some node) = node.item

  abbrev pub item_at : List (Node T) → ℕ → Option (Item T)
  item_at cells p = item_in (value_at p cells)

  -- whether the node at p has room for an item
  abbrev pub room_in : Option (Node T) → Bool
  room_in None = false
  room_in (Some node) = node.room

  abbrev pub room_at : List (Node T) → ℕ → Bool
  room_at cells p = room_in (value_at p cells)

  -- these nodes have room for an item
  abbrev pub HaveRoom : List (Node T) → List ℕ → Type 0
  HaveRoom cells ps = (p : ℕ) → IsIn p ps → room_at cells p ≡ true

  -- the node at p can stand in a ring of the pair: each in one of a channel, and those with room for an item in that by due tick
  abbrev pub CanStand : Pair → List (Node T) → ℕ → Type 0
  CanStand Channel cells p = IsSome (value_at p cells)
  CanStand Due cells p = room_at cells p ≡ true

  abbrev pub with_item : ℕ → Option (Item T) → List (Node T) → List (Node T)
  with_item p item = change_at p (λ node. record node { item = item })

  -- there is one more node at p, last of all, and it holds no item
  abbrev pub IsVacantLast : ℕ → List (Node T) → List (Node T) → Type 0
  IsVacantLast p old new = (node : Node T) × (new ≡ old ++ node ∷ []) × (node.item ≡ None) × (p ≡ length old)

  -- 3. Rings
  -- the node at s and those at ps, each once, follow one another in a ring
  pub record IsRing (pair : Pair) (cells : List (Node T)) (s : ℕ) (ps : List ℕ) : Type 0 where
    pub apart : IsDistinct same_place (s ∷ ps)
    pub there : AllByRecursion (λ p. IsSome (value_at p cells)) (s ∷ ps)
    pub round : AreNeighbours (next_of pair cells) (prev_of pair cells) (s ∷ ps) (ps ++ s ∷ [])
