-- The nodes as contracts see them: each with its neighbours, and with an item where it has room for one.
use Rattle.std.specs.Prelude.{ℕ, zero, suc, Bool, true, false, List, [], ◌∷◌, Option, None}
use Rattle.mn_flight.specs.declared.Item.{Item}
use Rattle.mn_flight_pool.specs.declared.node.Link.{Link}

-- the neighbours of a node in each ring
pub record Links : Type 0 where
  pub channel : Link
  pub due : Link

pub record Node (T : Type 0) : Type 0 where
  pub links : Links
  pub room : Bool  -- whether it has room for an item
  pub item : Option (Item T)

-- the neighbours of a node that is in no ring
abbrev pub nowhere : Link
nowhere = record { next = record { index = 0 }; prev = record { index = 0 } }

-- so many numbers from one on
abbrev pub numbers : ℕ → ℕ → List ℕ
numbers from zero = []
numbers from (suc n) = from ∷ numbers (suc from) n

-- the places of the first nodes of so many channels: each is its channel's number
abbrev pub firsts : ℕ → List ℕ
firsts channels = numbers 0 channels

-- the neighbours of a node that is alone in its ring
abbrev pub lone_link : ℕ → Link
lone_link p = record { next = record { index = p }; prev = record { index = p } }

abbrev pub lone_links_at : List ℕ → List Link
lone_links_at [] = []
lone_links_at (p ∷ ps) = lone_link p ∷ lone_links_at ps

abbrev pub lone_links : ℕ → List Link
lone_links n = lone_links_at (firsts n)

module _ {T : Type 0} where
  -- the first node of a channel stands in the ring of that channel alone
  abbrev pub first_node : Link → Node T
  first_node link = record { links = record { channel = link; due = nowhere }; room = false; item = None }

  -- any other node stands in a channel's ring and in that of all items by due tick
  abbrev pub roomy_node : Link → Link → Option (Item T) → Node T
  roomy_node link due item = record { links = record { channel = link; due = due }; room = true; item = item }

  -- nodes with room, with these neighbours and items
  abbrev pub roomy_nodes : List Link → List Link → List (Option (Item T)) → List (Node T)
  roomy_nodes [] dues items = []
  roomy_nodes (link ∷ links) [] items = first_node link ∷ roomy_nodes links [] items
  roomy_nodes (link ∷ links) (due ∷ dues) [] = first_node link ∷ roomy_nodes links dues []
  roomy_nodes (link ∷ links) (due ∷ dues) (item ∷ items) = roomy_node link due item ∷ roomy_nodes links dues items

  -- the first nodes of so many channels, and behind them the others
  abbrev pub nodes_of : ℕ → List Link → List Link → List (Option (Item T)) → List (Node T)
  nodes_of zero links dues items = roomy_nodes links dues items
  nodes_of (suc n) [] dues items = []
  nodes_of (suc n) (link ∷ links) dues items = first_node link ∷ nodes_of n links dues items

  -- the first nodes of so many channels, each alone in its ring
  abbrev pub lone_firsts : ℕ → List (Node T)
  lone_firsts n = nodes_of n (lone_links n) [] []
