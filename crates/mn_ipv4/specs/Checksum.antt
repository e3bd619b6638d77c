-- The Internet checksum: RFC 791, section 3.1 "Header Checksum", and RFC 1071, section 1.
use Rattle.std.specs.Prelude.{ℕ, List, [], ◌∷◌, ◌+◌, ◌*◌, ◌/◌, ◌%◌}

-- the 16-bit words of the bytes, the first byte of each the higher; an odd last byte is followed by zero
abbrev pub words : List ℕ → List ℕ
words [] = []
words (high ∷ []) = 256 * high ∷ []
words (high ∷ low ∷ rest) = (256 * high + low) ∷ words rest

-- one's complement addition: the carry out of the sixteenth bit is added at the lowest
abbrev pub ones_complement_add : ℕ → ℕ → ℕ
ones_complement_add a b = (a + b) % 65536 + (a + b) / 65536

-- the one's complement sum of the words
abbrev pub ones_complement_sum : List ℕ → ℕ
ones_complement_sum [] = 0
ones_complement_sum (word ∷ rest) = ones_complement_add word (ones_complement_sum rest)
