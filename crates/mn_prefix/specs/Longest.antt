-- RFC 1812, section 5.2.4.3: of the routes that match an address, those of the longest prefix.
use Rattle.std.specs.Prelude.{ℕ, Bool, nat_le, List, filter}
use Rattle.std.specs.List.{list_all}
use Rattle.mn_prefix.specs.Prefix.{AddressBlock, contains}

-- the routes of the list whose prefix contains the address
abbrev pub matching : {R : Type 0} → (R → AddressBlock) → ℕ → List R → List R
matching prefix_of address routes = filter (λ route. contains (prefix_of route) address) routes

-- no route of the list has a longer prefix
abbrev pub is_longest : {R : Type 0} → (R → AddressBlock) → List R → R → Bool
is_longest prefix_of routes route = list_all (λ other. nat_le (prefix_of other).length (prefix_of route).length) routes

-- of the routes whose prefix contains the address, those of greatest length, in the order of the list
abbrev pub longest_matches : {R : Type 0} → (R → AddressBlock) → ℕ → List R → List R
longest_matches prefix_of address routes = let found = matching prefix_of address routes in filter (is_longest prefix_of found) found
