-- A node's ends of sessions by link, of which those alone are kept that were ever noted.
use Rattle.std.specs.Prelude.{ℕ, ◌<◌, ◌==◌, if◌then◌else◌, List, [], ◌∷◌, map, Option, None}
use Rattle.std.specs.List.{AllPairs, range_with_len}
use Rattle.mn_lsr.specs.declared.parts.Open.{Open}
use Rattle.mn_lsr.specs.declared.own_ends.End.{End}

-- by link
pub record Listed : Type 0 where
  pub items : List (Option Open)

-- the link of each end is below those of all that come after it
abbrev pub IsAscending : List End → Type 0
IsAscending ends = AllPairs (λ earlier later. earlier.link.0 < later.link.0) ends

-- the end of a link: the first that is noted of it
abbrev pub end_of : List End → ℕ → Option Open
end_of [] l = None
end_of (end ∷ ends) l = if end.link.0 == l then end.noted else end_of ends l

abbrev pub ends_of : ℕ → List End → List (Option Open)
ends_of links ends = map (end_of ends) (range_with_len 0 links)
