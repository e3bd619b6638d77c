-- RFC 4364, section 4.3.1, and RFC 4360, section 4: sets of route targets, and when a route's targets meet those that a VRF imports.
use Rattle.std.specs.Prelude.{◌≡◌, ◌≢◌, ◌↔◌, ◌⊎◌, ◌==◌, nat_lt, not, Bool, true, false, cond, filter, List, [], ◌∷◌}
use Rattle.std.specs.List.{Contains, list_any}
pub use Rattle.mn_base.specs.Ordered.{IsAscending}
use Rattle.mn_base.specs.declared.numbers.Rt.{Rt}

-- the two have the same targets, in whatever order
abbrev pub HaveSame : List Rt → List Rt → Type 0
HaveSame a b = (target : Rt) → Contains a target ↔ Contains b target

-- new has what old has, and this target, and no other
abbrev pub IsWith : List Rt → List Rt → Rt → Type 0
IsWith old new added = (target : Rt) → Contains new target ↔ (Contains old target ⊎ (target ≡ added))

-- new has what old has, but for this target, and no other
abbrev pub IsWithout : List Rt → List Rt → Rt → Type 0
IsWithout old new removed = (target : Rt) → Contains new target ↔ (Contains old target × (target ≢ removed))

-- some target stands in both
abbrev pub Meet : List Rt → List Rt → Type 0
Meet a b = (target : Rt) × (Contains a target × Contains b target)

-- a set in ascending order, with a target that it hadn't, or without one
abbrev pub target_set : Rt → Bool → List Rt → List Rt
target_set target true [] = target ∷ []
target_set target true (other ∷ others) = cond (nat_lt target.0 other.0) (target ∷ other ∷ others) (other ∷ target_set target true others)
target_set target false others = filter (λ (other : Rt). not (target.0 == other.0)) others

-- the target is one of these
abbrev pub has_target : Rt → List Rt → Bool
has_target target others = list_any (λ (other : Rt). other.0 == target.0) others

-- one of the targets is one of the others
abbrev pub meet : List Rt → List Rt → Bool
meet targets others = list_any (λ target. has_target target others) targets
