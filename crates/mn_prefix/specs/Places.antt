-- What a search among pairs finds, for the table of pairs in a `Vec`.
use Rattle.std.specs.Prelude.{◌≡◌, ◌<◌, ◌||◌, ℕ, true, not, nat_le, List, take, slice_index_or, MatchOption, Option}
use Rattle.std.specs.List.{list_all}
use Rattle.mn_prefix.specs.Prefix.{AddressBlock, contains}

-- of the first so many pairs, the one at this place contains the address, and none that contains it is longer
pub record IsLongestPlace {T : Type 0} (address : ℕ) (pairs : List (AddressBlock × T)) (count place : ℕ) : Type 0 where
  pub there : place < count
  pub covers : (d : AddressBlock × T) → contains (slice_index_or pairs place d).0 address ≡ true
  pub longest : (d : AddressBlock × T) →
      list_all (λ pair. not (contains pair.0 address) || nat_le pair.0.length (slice_index_or pairs place d).0.length) (take count pairs) ≡ true

-- of the first so many pairs, the place of one of greatest length that contains the address, or none where none contains it
abbrev pub IsBestPlace : {T : Type 0} → ℕ → List (AddressBlock × T) → ℕ → Option ℕ → Type 0
IsBestPlace address pairs count best =
    MatchOption best (list_all (λ pair. not (contains pair.0 address)) (take count pairs) ≡ true) (IsLongestPlace address pairs count)
