-- The prefixes that a VRF holds, each with the best of its routes: RFC 4271, section 9.1.
use Rattle.std.specs.Prelude.{ℕ, List, [], filter, fold, slice_get, Option, Some, None}
use Rattle.mn_base.specs.Ordered.{with_one}
use Rattle.mn_topo.specs.Prefix.{AddressBlock, same_prefix}
use Rattle.mn_ledger.specs.Exports.{comes_before}
use Rattle.mn_ledger.specs.Held.{HeldRoute, unbeaten, first_of}

-- the prefixes of routes, each once, by address and then by length
abbrev pub prefixes_of : List HeldRoute → List AddressBlock
prefixes_of routes = fold (λ prefixes (route : HeldRoute). with_one comes_before route.prefix prefixes) [] routes

-- the routes of a prefix, and of these the best
abbrev pub best_for : List HeldRoute → AddressBlock → Option HeldRoute
best_for routes prefix = first_of (unbeaten (filter (λ (route : HeldRoute). same_prefix route.prefix prefix) routes))

abbrev pub best_at : List HeldRoute → Option AddressBlock → Option HeldRoute
best_at routes None = None
best_at routes (Some prefix) = best_for routes prefix

-- the best route of the prefix at a place, from 0
abbrev pub held_at : List HeldRoute → ℕ → Option HeldRoute
held_at routes place = best_at routes (slice_get (prefixes_of routes) place)
