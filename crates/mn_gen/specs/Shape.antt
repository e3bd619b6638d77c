-- The network of a number, and texts in pieces.
use Rattle.std.specs.Prelude.{ℕ, ◌+◌, ◌*◌, ◌/◌, ◌%◌, List, [], ◌∷◌, ◌++◌, map}
use Rattle.std.specs.List.{range_with_len}

-- pieces of text in one
abbrev pub text : List (List ℕ) → List ℕ
text [] = []
text (piece ∷ []) = piece
text (piece ∷ pieces) = piece ++ text pieces

abbrev pub node_count : ℕ → ℕ
node_count number = 8 + number

-- the nodes, from 0
abbrev pub nodes : ℕ → List ℕ
nodes number = range_with_len 0 (node_count number)

-- the next node of the ring
abbrev pub after : ℕ → ℕ → ℕ
after number node = (node + 1) % node_count number

-- half a ring
abbrev pub half : ℕ → ℕ
half number = node_count number / 2

-- the nodes from which a chord goes
abbrev pub chords : ℕ → List ℕ
chords number = range_with_len 0 (half number)

-- each fourth node is an edge
abbrev pub edge_count : ℕ → ℕ
edge_count number = (node_count number + 3) / 4

abbrev pub edges : ℕ → List ℕ
edges number = map (λ k. 4 * k) (range_with_len 0 (edge_count number))
