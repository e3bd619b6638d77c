-- The texts of IPv4 addresses and prefixes (RFC 4632, section 3.1), and what is read of them.
use Rattle.std.specs.Prelude.{ℕ, ◌==◌, ◌+◌, ◌-◌, ◌*◌, ◌/◌, ◌%◌, ◌^◌, if◌then◌else◌, List, ◌∷◌, ◌++◌, take, drop, position, Option, Some, option_map}
use Rattle.std.specs.Prelude.{option_and_then, Result, Ok, Err}
use Rattle.std.specs.Option.{option_map_or}
use Rattle.mn_prefix.specs.Prefix.{AddressBlock}
use Rattle.mn_text.specs.declared.refusal.TextBad.{TextBad}
use Rattle.mn_text.specs.declared.refusal.TextBad.TheVariants.{BadPrefix, HostBits}
use Rattle.mn_text.specs.Numbers.{number_text, number_up_to}
use Rattle.mn_base.specs.Found.{◌>>=◌}

-- the four bytes of an address, the greatest first, joined by dots
unfoldable pub address_text : ℕ → List ℕ
address_text a =
    number_text (a / 256 / 256 / 256) ++ 46 ∷ (number_text (a / 256 / 256 % 256) ++ 46 ∷ (number_text (a / 256 % 256) ++ 46 ∷ number_text (a % 256)))

-- the address, a slash and the length
unfoldable pub prefix_text : AddressBlock → List ℕ
prefix_text p = address_text p.address ++ 47 ∷ number_text p.length

-- the part before the first such byte, and the part after it
abbrev pub cut : ℕ → List ℕ → Option (List ℕ × List ℕ)
cut byte word = option_map (λ i. (take i word, drop (i + 1) word)) (position (λ b. b == byte) word)

-- four numbers of at most 255, joined by dots
unfoldable pub address_of : List ℕ → Option ℕ
address_of word = do
  a ← cut 46 word
  b ← cut 46 a.1
  c ← cut 46 b.1
  first ← number_up_to a.0 255
  second ← number_up_to b.0 255
  third ← number_up_to c.0 255
  fourth ← number_up_to c.1 255
  Some (((first * 256 + second) * 256 + third) * 256 + fourth)

-- an address, a slash and a number of at most 32
unfoldable pub slashed_of : List ℕ → Option AddressBlock
slashed_of word = do
  p ← cut 47 word
  address ← address_of p.0
  length ← number_up_to p.1 32
  Some (record { address = address; length = length })

-- no bit after the first `length` is set
abbrev pub without_host_bits : AddressBlock → Result AddressBlock TextBad
without_host_bits p = if p.address % 2 ^ (32 - p.length) == 0 then Ok p else Err HostBits

-- a prefix, or why it isn't one
abbrev pub prefix_of : List ℕ → Result AddressBlock TextBad
prefix_of word = option_map_or without_host_bits (slashed_of word) (Err BadPrefix)
