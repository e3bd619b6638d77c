-- Which nodes a link joins.
use Rattle.std.specs.Prelude.{ℕ, min, max, Bool, ◌&&◌, ◌==◌, List}
use Rattle.std.specs.List.{list_any}
use Rattle.mn_wiring.specs.declared.links.LinkEnds.{LinkEnds}

-- the link joins the two nodes, in whichever order
abbrev pub joins : ℕ → ℕ → LinkEnds → Bool
joins m n link = min m n == min link.a.0 link.b.0 && max m n == max link.a.0 link.b.0

-- one of the links joins the two nodes
abbrev pub are_joined : List LinkEnds → ℕ → ℕ → Bool
are_joined links m n = list_any (joins m n) links
