-- A table that is kept by length: of each length the addresses of the prefixes, with their values.
use Rattle.std.specs.Prelude.{◌≡◌, ℕ, suc, ◌<◌, ◌*◌, ◌-◌, ◌^◌, ◌==◌, List, [], ◌∷◌, ◌++◌, length, slice_index_or, map, filter, Option, option_map}
use Rattle.std.specs.Ordering.{nat_cmp}
use Rattle.std.specs.BTreeMap.{BTreeMap, ContainsKey, IsOrdered}
use Rattle.mn_prefix.specs.Prefix.{AddressBlock, IsPrefix, first_bits}
use Rattle.mn_prefix.specs.Table.{value_at}

-- addresses as prefixes of this length
abbrev pub of_length : {T : Type 0} → ℕ → List (ℕ × T) → List (AddressBlock × T)
of_length size entries = map (λ entry. (record { address = entry.0; length = size }, entry.1)) entries

-- the pairs of all levels, the first of which is of this length, and each later one of one more
abbrev pub pairs_from : {T : Type 0} → ℕ → List (BTreeMap ℕ T) → List (AddressBlock × T)
pairs_from size [] = []
pairs_from size (level ∷ levels) = of_length size level.entries ++ pairs_from (suc size) levels

-- of pairs those of one length, by address
abbrev pub level_of : {T : Type 0} → ℕ → List (AddressBlock × T) → List (ℕ × T)
level_of size pairs = map (λ pair. (pair.0.address, pair.1)) (filter (λ pair. pair.0.length == size) pairs)

-- the addresses ascend, and are those of prefixes of this length
pub record IsLevel {T : Type 0} (size : ℕ) (level : BTreeMap ℕ T) : Type 0 where
  pub ascends : IsOrdered nat_cmp level
  pub prefixes : (address : ℕ) → ContainsKey nat_cmp level address → IsPrefix address size

-- the levels of the lengths from 0 to 32
pub record AreLevels {T : Type 0} (levels : List (BTreeMap ℕ T)) : Type 0 where
  pub long : length levels ≡ 33
  pub each : (size : ℕ) (d : BTreeMap ℕ T) → size < length levels → IsLevel size (slice_index_or levels size d)

-- the address with zeros after its first bits
abbrev pub network : ℕ → ℕ → ℕ
network size address = first_bits size address * 2 ^ (32 - size)

-- the prefix of this length that contains the address
abbrev pub prefix_at : ℕ → ℕ → AddressBlock
prefix_at size address = record { address = network size address; length = size }

-- the pair of a prefix, if the prefix has a value
abbrev pub pair_at : {T : Type 0} → AddressBlock → List (AddressBlock × T) → Option (AddressBlock × T)
pair_at prefix pairs = option_map (λ value. (prefix, value)) (value_at prefix pairs)
