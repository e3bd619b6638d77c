-- The best route for an address, apart from how it is found: RFC 1812, section 5.2.4.3.
use Rattle.std.specs.Prelude.{◌≡◌, ℕ, true, false, List, Some, None}
use Rattle.std.specs.List.{Contains}
use Rattle.mn_topo.specs.Prefix.{contains}
use Rattle.mn_ledger.specs.Held.{HeldRoute, is_better, best}

-- a held route whose prefix contains the address, and than which none of those is better
pub record IsBest (routes : List HeldRoute) (address : ℕ) (route : HeldRoute) : Type 0 where
  pub held : Contains routes route
  pub matches : contains route.prefix address ≡ true
  pub unbeaten : (other : HeldRoute) → Contains routes other → contains other.prefix address ≡ true → is_better other route ≡ false

-- `best` names the one route that is best, and none exactly where no prefix contains the address
pub record NamesTheBest (routes : List HeldRoute) (address : ℕ) : Type 0 where
  pub named : (route : HeldRoute) → best routes address ≡ Some route → IsBest routes address route
  pub one : (route : HeldRoute) → IsBest routes address route → best routes address ≡ Some route
  pub none : best routes address ≡ None → (route : HeldRoute) → Contains routes route → contains route.prefix address ≡ false
