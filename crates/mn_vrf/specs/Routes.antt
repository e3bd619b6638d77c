-- The routes that a VRF holds: by prefix, and of one prefix by preference. RFC 4364, sections 4.3 and 5; RFC 1812, section 5.2.4.3.
use Rattle.std.specs.Prelude.{ℕ, slice_index_or, ◌&&◌, ◌==◌, nat_lt, Bool, true, false, if◌then◌else◌, Option, Some, None, List, [], ◌∷◌, map, filter}
use Rattle.mn_prefix.specs.Prefix.{AddressBlock, same_prefix}
use Rattle.mn_prefix.specs.Table.{longest_match}
use Rattle.mn_base.specs.Ordered.{first_by, one_at, without_one}
use Rattle.mn_vrf.specs.declared.source.Source.{Source}
use Rattle.mn_vrf.specs.declared.source.Source.TheVariants.{Own, Near, Far}

-- first the one that is preferred: an own static; then another VRF of the edge, by number; then another edge, by address and
-- then by distinguisher
abbrev pub source_before : Source → Source → Bool
source_before (Own s) (Own r) = false
source_before (Own s) _ = true
source_before (Near v s) (Own r) = false
source_before (Near v s) (Near w r) = nat_lt v.0 w.0
source_before (Near v s) (Far address rd edge label) = true
source_before (Far address rd edge label) (Far other other_rd _ _) = first_by address other (nat_lt rd.0 other_rd.0)
source_before (Far address rd edge label) _ = false

-- by prefix, and of one prefix by preference
abbrev pub route_before : AddressBlock × Source → AddressBlock × Source → Bool
route_before route other = first_by route.0.address other.0.address (first_by route.0.length other.0.length (source_before route.1 other.1))

abbrev pub same_source : Source → Source → Bool
same_source (Own s) (Own r) = s.0 == r.0
same_source (Near v s) (Near w r) = (v.0 == w.0) && (s.0 == r.0)
same_source (Far address rd edge label) (Far other other_rd other_edge other_label) =
    (address == other) && ((rd.0 == other_rd.0) && ((edge.0 == other_edge.0) && (label == other_label)))
same_source _ _ = false

-- what stands in the place of a source is the source
abbrev pub is_that : Source → Option (AddressBlock × Source) → Bool
is_that source None = false
is_that source (Some other) = same_source source other.1

-- the route is held
abbrev pub is_held : AddressBlock × Source → List (AddressBlock × Source) → Bool
is_held route routes = is_that route.1 (one_at route_before route routes)

-- without the route that equals this one
abbrev pub without_route : AddressBlock × Source → List (AddressBlock × Source) → List (AddressBlock × Source)
without_route route routes = if is_held route routes then without_one route_before route routes else routes

-- the sources of a prefix's routes, in the order of the list
abbrev pub sources_of : AddressBlock → List (AddressBlock × Source) → List Source
sources_of prefix routes = map (λ route. route.1) (filter (λ (route : AddressBlock × Source). same_prefix prefix route.0) routes)

-- a list that has an element
abbrev pub unless_empty : {A : Type 0} → List A → Option (List A)
unless_empty [] = None
unless_empty (x ∷ xs) = Some (x ∷ xs)

-- the source stands among these, in its place
abbrev pub is_source : Source → Option Source → Bool
is_source source None = false
is_source source (Some other) = same_source source other

abbrev pub has_source : Source → List Source → Bool
has_source source sources = is_source source (one_at source_before source sources)

-- the route is one of the edge itself, or of an edge that is among these: RFC 4271, section 9.1.2
abbrev pub is_open : List Bool → Source → Bool
is_open ways (Far address rd edge label) = slice_index_or ways edge.0 false
is_open ways source = true

abbrev pub open_among : List Bool → List (AddressBlock × Source) → List (AddressBlock × Source)
open_among ways routes = filter (λ (route : AddressBlock × Source). is_open ways route.1) routes

-- the first, if there is one
abbrev pub or_else : {A : Type 0} → Option A → Option A → Option A
or_else None other = other
or_else (Some x) other = Some x

-- the first open route of the longest prefix that contains the address and has one; where there is none, the first of the longest of all
abbrev pub found_among : List Bool → ℕ → List (AddressBlock × Source) → Option (AddressBlock × Source)
found_among ways address routes = or_else (longest_match address (open_among ways routes)) (longest_match address routes)
