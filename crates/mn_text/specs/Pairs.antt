-- RFC 4364, section 4.2, and RFC 4360, sections 3.1 and 3.2: the texts `AS:N` and `ADDRESS:N` of eight bytes, of which two are the type.
use Rattle.std.specs.Prelude.{ℕ, ◌==◌, ◌+◌, ◌*◌, ◌/◌, ◌%◌, ◌^◌, if◌then◌else◌, List, ◌∷◌, ◌++◌, Option, Some, None, option_map, option_and_then}
use Rattle.mn_base.specs.Numbers.{type_field}
use Rattle.mn_base.specs.declared.numbers.Rd.{Rd}
use Rattle.mn_base.specs.declared.numbers.Rt.{Rt}
use Rattle.mn_text.specs.Numbers.{number_text, number_up_to}
use Rattle.mn_text.specs.Addresses.{cut, address_of, address_text}
use Rattle.mn_base.specs.Found.{◌>>=◌}

-- two bytes of AS, and four of number
abbrev pub by_as_text : ℕ → List ℕ
by_as_text n = number_text (n / 2 ^ 32 % 2 ^ 16) ++ 58 ∷ number_text (n % 2 ^ 32)

-- four bytes of address, and two of number
abbrev pub by_address_text : ℕ → List ℕ
by_address_text n = address_text (n / 2 ^ 16 % 2 ^ 32) ++ 58 ∷ number_text (n % 2 ^ 16)

-- the text of eight bytes, where `by_address` is the type of those that an address administers
unfoldable pub pair_text : ℕ → ℕ → List ℕ
pair_text by_address n = if type_field n == by_address then by_address_text n else by_as_text n

-- the text of a distinguisher
abbrev pub rd_text : Rd → List ℕ
rd_text rd = pair_text 1 rd.0

-- the text of a target
abbrev pub rt_text : Rt → List ℕ
rt_text target = pair_text 0x0102 target.0

-- an AS of at most 65535 and a number of at most 4294967295, as six bytes
abbrev pub as_pair : List ℕ → List ℕ → Option ℕ
as_pair front back = do
  as_number ← number_up_to front 65535
  number ← number_up_to back 4294967295
  Some (as_number * 2 ^ 32 + number)

-- an address and a number of at most 65535, as six bytes
abbrev pub address_pair : List ℕ → List ℕ → Option ℕ
address_pair front back = do
  address ← address_of front
  number ← number_up_to back 65535
  Some (address * 2 ^ 16 + number)

-- six bytes after a type
abbrev pub typed : ℕ → ℕ → ℕ
typed kind six_bytes = kind * 2 ^ 48 + six_bytes

abbrev pub or_else : {A : Type 0} → Option A → Option A → Option A
or_else None other = other
or_else (Some x) other = Some x

-- either pair, joined by a colon, after its type
unfoldable pub pair_of : ℕ → ℕ → List ℕ → Option ℕ
pair_of by_as by_address word =
    cut 58 word >>= (λ p. or_else (option_map (typed by_as) (as_pair p.0 p.1)) (option_map (typed by_address) (address_pair p.0 p.1)))

-- a distinguisher, of type 0 or 1
abbrev pub rd_of : List ℕ → Option Rd
rd_of word = option_map (λ n. record { 0 = n }) (pair_of 0 1 word)

-- a target, of type and subtype 0002 or 0102
abbrev pub rt_of : List ℕ → Option Rt
rt_of word = option_map (λ n. record { 0 = n }) (pair_of 0x0002 0x0102 word)
