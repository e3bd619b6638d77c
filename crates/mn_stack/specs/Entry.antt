-- An entry of the label stack: RFC 3032, section 2.1.
use Rattle.std.specs.Prelude.{◌≡◌, ℕ, ◌+◌, ◌*◌, ◌/◌, ◌%◌, ◌^◌, ◌<◌, ◌==◌, Bool, List, if◌then◌else◌}
use Rattle.byteorder.specs.Endian.{big_bytes}
use Rattle.mn_stack.specs.declared.message.Entry.{Entry}

-- each field fits its bits
pub record Fits (entry : Entry) : Type 0 where
  pub label : entry.label < 2 ^ 20
  pub exp : entry.exp < 2 ^ 3
  pub ttl : entry.ttl < 2 ^ 8

abbrev pub bit : Bool → ℕ
bit b = if b then 1 else 0

-- label (20 bits), Exp (3), S (1), TTL (8), the highest first
abbrev pub number_of : Entry → ℕ
number_of entry = entry.label * 2 ^ 12 + entry.exp * 2 ^ 9 + bit entry.bottom * 2 ^ 8 + entry.ttl

-- its four bytes
unfoldable pub entry_bytes : Entry → List ℕ
entry_bytes entry = big_bytes 4 (number_of entry)

-- the entry that has this number
abbrev pub entry_of : ℕ → Entry
entry_of n = record { label = n / 2 ^ 12; exp = n / 2 ^ 9 % 2 ^ 3; bottom = n / 2 ^ 8 % 2 == 1; ttl = n % 2 ^ 8 }

-- no two entries have the same bytes
abbrev pub EntriesDiffer : Type 0
EntriesDiffer = (a b : Entry) → Fits a → Fits b → entry_bytes a ≡ entry_bytes b → a ≡ b
