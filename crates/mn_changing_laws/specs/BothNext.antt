-- Paths while a link changes: some nodes take it for up and the others for down, and each sends by the links that it takes for up. Of these
-- the ones have learned of the change and the others haven't (RFC 5715, section 2: micro-loops).
use Rattle.std.specs.Prelude.{ℕ, Bool, cond, List, [], ◌∷◌, ◌++◌, Option, Some, None, ⊤}
use Rattle.std.specs.List.{Contains}
use Rattle.mn_wiring.specs.Wiring.{Wiring, View}
use Rattle.mn_wiring.specs.Paths.{next}

-- 1. Next hops: hop by hop routing, RFC 3031, section 3.21

abbrev pub neighbour_in : Option (ℕ × ℕ) → List ℕ
neighbour_in None = []
neighbour_in (Some hop) = hop.0 ∷ []

-- the next hops of a node towards an edge with the link down and with the link up: before a change and after it, or after it and before
abbrev pub both_next : Wiring → View → View → ℕ → ℕ → List ℕ
both_next wiring down up edge node = neighbour_in (next wiring down node edge) ++ neighbour_in (next wiring up node edge)

-- its next hop where just these nodes take the link for up
abbrev pub next_where : Wiring → View → View → (ℕ → Bool) → ℕ → ℕ → List ℕ
next_where wiring down up is_up_at edge node = neighbour_in (next wiring (cond (is_up_at node) up down) node edge)

-- 2. Paths

-- each node of the path but the first is one of the next hops of the one before it
abbrev pub GoesBy : (ℕ → List ℕ) → List ℕ → Type 0
GoesBy hops [] = ⊤
GoesBy hops (node ∷ []) = ⊤
GoesBy hops (node ∷ other ∷ nodes) = Contains (hops node) other × GoesBy hops (other ∷ nodes)

-- no node is on the path twice
abbrev pub HasNoneTwice : List ℕ → Type 0
HasNoneTwice [] = ⊤
HasNoneTwice (node ∷ nodes) = (Contains nodes node → ⊥) × HasNoneTwice nodes

-- whichever nodes take the link for up, next hops towards the edge lead from no node back to it
abbrev pub HasNoLoop : Wiring → View → View → ℕ → Type 0
HasNoLoop wiring down up edge =
    (is_up_at : ℕ → Bool) (node : ℕ) (nodes : List ℕ) → GoesBy (next_where wiring down up is_up_at edge) (node ∷ nodes ++ node ∷ []) → ⊥

-- no walk by both next hops leads from a node back to it that meets no other one twice: what a search for loops finds, if there is one
abbrev pub HasNoCycle : Wiring → View → View → ℕ → Type 0
HasNoCycle wiring down up edge =
    (node : ℕ) (nodes : List ℕ) → HasNoneTwice (node ∷ nodes) → GoesBy (both_next wiring down up edge) (node ∷ nodes ++ node ∷ []) → ⊥
