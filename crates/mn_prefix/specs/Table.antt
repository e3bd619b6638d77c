-- What a table of prefixes holds: pairs of a prefix and a value, of which no two have the same prefix.
use Rattle.std.specs.Prelude.{◌≡◌, ◌≤◌, ℕ, true, false, List, [], ◌∷◌, Option, None, Some}
use Rattle.std.specs.List.{IsDistinct, AllByRecursion}
use Rattle.std.specs.Map.{lookup, keys_of}
use Rattle.mn_prefix.specs.Prefix.{AddressBlock, IsPrefix, contains, same_prefix}
use Rattle.mn_prefix.specs.Longest.{longest_matches}

-- no two pairs have the same prefix
abbrev pub HasDistinctPrefixes : {T : Type 0} → List (AddressBlock × T) → Type 0
HasDistinctPrefixes pairs = IsDistinct same_prefix (keys_of pairs)

-- pairs of a prefix and a value, with distinct prefixes
pub record IsTable {T : Type 0} (pairs : List (AddressBlock × T)) : Type 0 where
  pub distinct : HasDistinctPrefixes pairs
  pub prefixes : AllByRecursion (λ p. IsPrefix p.address p.length) (keys_of pairs)

-- the value of the pair with this prefix
abbrev pub value_at : {T : Type 0} → AddressBlock → List (AddressBlock × T) → Option T
value_at prefix pairs = lookup (same_prefix prefix) pairs

-- afterwards this is what the table has at the prefix, and at each other prefix it has what it had
pub record ChangesOnly {T : Type 0} (old new : List (AddressBlock × T)) (prefix : AddressBlock) (value : Option T) : Type 0 where
  pub changed : value_at prefix new ≡ value
  pub others : (other : AddressBlock) → same_prefix prefix other ≡ false → value_at other new ≡ value_at other old

-- the first of a list
abbrev pub first_of : {R : Type 0} → List R → Option R
first_of [] = None
first_of (x ∷ xs) = Some x

-- the pair of the longest prefix that contains the address
abbrev pub longest_match : {T : Type 0} → ℕ → List (AddressBlock × T) → Option (AddressBlock × T)
longest_match address pairs = first_of (longest_matches (λ pair. pair.0) address pairs)

-- a prefix that the table holds contains the address, and none that it holds and that contains it is longer
pub record IsLongestMatch {T : Type 0} (address : ℕ) (pairs : List (AddressBlock × T)) (found : AddressBlock × T) : Type 0 where
  pub held : value_at found.0 pairs ≡ Some found.1
  pub covers : contains found.0 address ≡ true
  pub longest : (p : AddressBlock) (v : T) → value_at p pairs ≡ Some v → contains p address ≡ true → p.length ≤ found.0.length
