-- Changes of a link: it is down at the start, and each change turns it.
use Rattle.std.specs.Prelude.{ℕ, ◌≢◌, ◌%◌, ◌==◌, Bool, List, [], ◌∷◌, slice_index, ⊤}

-- the number of changes is odd
abbrev pub is_odd : ℕ → Bool
is_odd count = count % 2 == 1

-- the link is up, from the number of changes of each link
abbrev pub is_link_up : List ℕ → ℕ → Bool
is_link_up changes l = is_odd (slice_index changes l)

-- each of these changes of a link makes it what it wasn't: up where it was down, or down where it was up
abbrev pub AllTurn : Bool → List Bool → Type 0
AllTurn was_up [] = ⊤
AllTurn was_up (up ∷ ups) = (up ≢ was_up) × AllTurn up ups

-- what the last of these changes made of the link
abbrev pub after_changes : Bool → List Bool → Bool
after_changes was_up [] = was_up
after_changes was_up (up ∷ ups) = after_changes up ups
