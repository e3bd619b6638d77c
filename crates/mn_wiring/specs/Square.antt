-- A square of four nodes, with which the laws of walks are tried.
use Rattle.std.specs.Prelude.{ℕ, true, false, [], ◌∷◌}
use Rattle.mn_wiring.specs.declared.links.LinkEnds.{LinkEnds}
use Rattle.mn_wiring.specs.Wiring.{Wiring, View}

abbrev pub side : ℕ → ℕ → LinkEnds
side a b = record { a = record { 0 = a }; b = record { 0 = b }; cost = 10; delay = 1; loss = 0; life = 2000 }

-- four links of cost 10, numbered 0 to 3
--
--   node 0 --link 0-- node 2
--     |                 |
--   link 1            link 3
--     |                 |
--   node 1 --link 2-- node 3
abbrev pub square : Wiring
square = record { loopbacks = 1 ∷ 2 ∷ 3 ∷ 4 ∷ []; ends = side 0 2 ∷ side 0 1 ∷ side 3 1 ∷ side 2 3 ∷ [] }

-- each link is up
abbrev pub all_up : View
all_up = true ∷ true ∷ true ∷ true ∷ []

-- the side from 0 to 1 is down
abbrev pub one_down : View
one_down = true ∷ false ∷ true ∷ true ∷ []

-- both sides at 0 are down
abbrev pub cut_off : View
cut_off = false ∷ false ∷ true ∷ true ∷ []
